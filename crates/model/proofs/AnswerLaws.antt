-- The answers of several calls as one: it is what counting their items one behind the other gives.
use mathlib.Core.Path.{◌∙◌, ◌≡◌, ap, refl, sym}
use Prim.Native.Nat.{◌+◌, suc, zero, ℕ}
use native.Mathlib.Nat.{add_assoc, add-zero, zero-add}
use native.Mathlib.Omega.{arith}
use mathlib.Core.Bool.{cond, false}
use mathlib.Core.List.{List, [], ◌++◌, ◌∷◌}
use lib.Dec.{eqb}
use borrow.Author.Tests.{ne_eqb}
use Rattle.model.specs.declared.Answer.{Answer}
use Rattle.model.specs.declared.Item.{Item}
use Rattle.model.specs.declared.Item.TheVariants.{Control, Printed, Refused, Sequence}
use Rattle.model.specs.Reading.{Read}
use Rattle.model.specs.Items.{blank_answer, counted, counted_all}
use Rattle.model.specs.Answers.{together}

first_of_lem : (r s n x y : ℕ) → cond (eqb r 0) (cond (eqb s 0) n y) x ≡ cond (eqb (r + s) 0) n (cond (eqb r 0) y x)
first_of_lem zero s n x y = rw zero-add
first_of_lem (suc r) s n x y =
    let e : eqb (suc r) 0 ≡ false = ne_eqb (suc r) 0 (omega arith) in
    let f : eqb (suc r + s) 0 ≡ false = ne_eqb (suc r + s) 0 (omega arith) in
    rw (e, f)

-- three answers as one
pub together_assoc : (a b c : Answer) → together a (together b c) ≡ together (together a b) c
together_assoc a b c =
    λ i. record {
      number = c.number;
      taken = sym (add_assoc a.taken b.taken c.taken) i;
      accepted = sym (add_assoc a.accepted b.accepted c.accepted) i;
      refused = sym (add_assoc a.refused b.refused c.refused) i;
      first = first_of_lem a.refused b.refused c.first a.first b.first i;
      parameter = first_of_lem a.refused b.refused c.parameter a.parameter b.parameter i;
      offset = first_of_lem a.refused b.refused c.offset a.offset b.offset i;
      printed = sym (add_assoc a.printed b.printed c.printed) i;
    }

together_counted : (i : Item) (at n : ℕ) (a b : Answer) → together a (counted i at n b) ≡ counted i at n (together a b)
together_counted (Printed c) at n a b = refl
together_counted (Control c) at n a b = refl
together_counted (Sequence q) at n a b =
    let p : a.accepted + (b.accepted + 1) ≡ (a.accepted + b.accepted) + 1 = omega arith in
    let r : a.printed + (b.printed + n) ≡ (a.printed + b.printed) + n = omega arith in
    λ i. record {
      number = b.number;
      taken = a.taken + b.taken;
      accepted = p i;
      refused = a.refused + b.refused;
      first = cond (eqb a.refused 0) b.first a.first;
      parameter = cond (eqb a.refused 0) b.parameter a.parameter;
      offset = cond (eqb a.refused 0) b.offset a.offset;
      printed = r i;
    }
together_counted (Refused n m) at p a b =
    let z : a.refused + (b.refused + 1) ≡ (a.refused + b.refused) + 1 = omega arith in
    λ i. record {
      number = b.number;
      taken = a.taken + b.taken;
      accepted = a.accepted + b.accepted;
      refused = z i;
      first = first_of_lem a.refused b.refused n a.first b.first i;
      parameter = first_of_lem a.refused b.refused m a.parameter b.parameter i;
      offset = first_of_lem a.refused b.refused at a.offset b.offset i;
      printed = a.printed + b.printed;
    }

together_all : (rs : List Read) (a b : Answer) → together a (counted_all rs b) ≡ counted_all rs (together a b)
unfolding counted_all
together_all [] a b = refl
together_all (r ∷ rs) a b = together_all rs a (counted r.item r.at r.prints b) ∙ ap (counted_all rs) (together_counted r.item r.at r.prints a b)

pub counted_append : (xs ys : List Read) (a : Answer) → counted_all (xs ++ ys) a ≡ counted_all ys (counted_all xs a)
unfolding counted_all
counted_append [] ys a = refl
counted_append (x ∷ xs) ys a = counted_append xs ys (counted x.item x.at x.prints a)

-- more bytes taken
abbrev pub more : ℕ → Answer → Answer
more t a = record { number = a.number; taken = a.taken + t; accepted = a.accepted; refused = a.refused; first = a.first; parameter = a.parameter; offset = a.offset; printed = a.printed }

pub more_all : (rs : List Read) (t : ℕ) (a : Answer) → more t (counted_all rs a) ≡ counted_all rs (more t a)
unfolding counted_all
more_all [] t a = refl
more_all (r ∷ rs) t a = more_all rs t (counted r.item r.at r.prints a) ∙ ap (counted_all rs) (step r.item)
  where
    step : (i : Item) → more t (counted i r.at r.prints a) ≡ counted i r.at r.prints (more t a)
    step (Printed c) = refl
    step (Control c) = refl
    step (Sequence q) = refl
    step (Refused n p) = refl

-- an answer whose first refusal is 0, its parameter and offset too, where none was counted
record Clean (a : Answer) : Type 0 where
  served : a.number ≡ 0
  first : cond (eqb a.refused 0) 0 a.first ≡ a.first
  parameter : cond (eqb a.refused 0) 0 a.parameter ≡ a.parameter
  offset : cond (eqb a.refused 0) 0 a.offset ≡ a.offset

clean_counted : (i : Item) (at n : ℕ) (a : Answer) → Clean a → Clean (counted i at n a)
clean_counted (Printed c) at n a h = h
clean_counted (Control c) at n a h = h
clean_counted (Sequence q) at n a h = record { served = h.served; first = h.first; parameter = h.parameter; offset = h.offset }
clean_counted (Refused k p) at n a h =
    let e : eqb (a.refused + 1) 0 ≡ false = ne_eqb (a.refused + 1) 0 (omega arith) in
    record { served = h.served; first = rw e; parameter = rw e; offset = rw e }

clean_all : (rs : List Read) (a : Answer) → Clean a → Clean (counted_all rs a)
unfolding counted_all
clean_all [] a h = h
clean_all (r ∷ rs) a h = clean_all rs (counted r.item r.at r.prints a) (clean_counted r.item r.at r.prints a h)

together_none : (a : Answer) (t : ℕ) → Clean a → together a (blank_answer 0 t) ≡ more t a
together_none a t h =
    λ i. record {
      number = sym h.served i;
      taken = a.taken + t;
      accepted = add-zero a.accepted i;
      refused = add-zero a.refused i;
      first = h.first i;
      parameter = h.parameter i;
      offset = h.offset i;
      printed = add-zero a.printed i;
    }

-- two calls' answers as one
pub joint : (xs ys : List Read) (s t : ℕ) → together (counted_all xs (blank_answer 0 s)) (counted_all ys (blank_answer 0 t)) ≡ counted_all (xs ++ ys) (blank_answer 0 (s + t))
joint xs ys s t =
    together_all ys (counted_all xs (blank_answer 0 s)) (blank_answer 0 t)
    ∙ ap (counted_all ys) (together_none (counted_all xs (blank_answer 0 s)) t (clean_all xs (blank_answer 0 s) (record { served = refl; first = refl; parameter = refl; offset = refl })) ∙ more_all xs t (blank_answer 0 s))
    ∙ sym (counted_append xs ys (blank_answer 0 (s + t)))

-- a refused call adds nothing
pub joint_refused : (n : ℕ) (b : Answer) → together (blank_answer n 0) b ≡ b
joint_refused n b =
    λ i. record {
      number = b.number;
      taken = zero-add b.taken i;
      accepted = zero-add b.accepted i;
      refused = zero-add b.refused i;
      first = b.first;
      parameter = b.parameter;
      offset = b.offset;
      printed = zero-add b.printed i;
    }
