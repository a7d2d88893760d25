-- Judging: what one check or two come to, a sequence by whether it is idle and by its verdict, and what the default arms of `check`, `fit`
-- and `judge` know of a sequence or an item.
use mathlib.Core.Path.{◌∙◌, ◌≡◌, ap, refl, subst, sym}
use Prim.Native.Nat.{ℕ, suc, ◌+◌}
use native.Mathlib.Nat.{add-zero}
use native.Mathlib.Omega.{arith}
use mathlib.Core.Bool.{Bool, ◌&&◌, ◌||◌, cond, false, true}
use mathlib.Core.List.{List, [], ◌∷◌, ◌++◌}
use lib.ListN.{length}
use lib.Dec.{T, eqb}
use borrow.Author.Tests.{eq-eqb, ne_eqb}
use mir.Val.{has_key}
use types.Run.{OneOf}
use denote.Enum.Declared.{tag_of}
use Rattle.model.specs.declared.Limits.{Limits}
use Rattle.model.specs.declared.Sequence.{Sequence as Seq}
use Rattle.model.specs.contracts.Sequence.{the_type}
use Rattle.model.specs.contracts.Item.{the_type as item-type}
use Rattle.model.specs.declared.Sequence.TheVariants.{PrintCode, Clear, CursorOff, CursorOn, Put, Charset, Copy, EraseLine, EraseRest, SecretOn, SecretOff, LinesUp, LinesDown, Step, Tracking, WindowUp, WindowDown, InsOn, InsOff, CapsOn, CapsOff, NumOn, NumOff, StringsOff, StringsOn, DrawLine, DrawDot, Mode0, Mode1, Mode2, Mode3, Select, Cover, Display, WindowTop, WindowBottom, CursorKind, WindowCursor, Pattern, Repeat, RepeatDelay, RepeatInterval, Arrows1, Arrows2, Arrows3, Nothing, Shift}
use Rattle.model.specs.declared.Item.{Item}
use Rattle.model.specs.declared.Item.TheVariants.{Printed, Control, Sequence, Refused}
use Rattle.model.specs.Bytes.{list_from}
use Rattle.model.specs.Checks.{Check, first_bad, in_ranges?, member, passes, free as any}
use Rattle.model.specs.Sequences.{code_of, idle?}
use Rattle.model.specs.Judging.{allowed, bad_of, fitting, judged, judged_ranges, legal?, ranges}
use Rattle.std.specs.Prelude.{Result, Ok, Err, IsErr, IsErrAnd, is_ok}
use Rattle.std.proofs.lemmas.Result.{err_from_is_err_and}
use Rattle.judging.specs.Judging.{Finds, FindsFrom, verdict}
use Rattle.model.proofs.Tests.{and_left, and_right, by_test, cond_at, differ}
use Rattle.model.proofs.Arms.{key_of}
use Rattle.model.proofs.Cases.{none_passes}
use Rattle.model.proofs.ParameterLaws.{refused_by_lem}

-- the cases of `Sequence`, by their numbers: those with no parameter that is judged, and those that are no copy
abbrev pub free : List ℕ
free = 0 ∷ 1 ∷ 2 ∷ 3 ∷ 6 ∷ 7 ∷ 8 ∷ 9 ∷ 10 ∷ 15 ∷ 16 ∷ 17 ∷ 18 ∷ 19 ∷ 20 ∷ 21 ∷ 22 ∷ 23 ∷ 24 ∷ 30 ∷ 34 ∷ 35 ∷ 37 ∷ 42 ∷ 43 ∷ 44 ∷ 45 ∷ []

abbrev pub others : List ℕ
others = list_from (λ n. n) 0 6 ++ list_from (λ n. n) 7 40

-- and those that are no 198
abbrev undrawn : List ℕ
undrawn = list_from (λ n. n) 0 25 ++ list_from (λ n. n) 26 21

-- case by case
told : (q : Seq) (s : Limits) → T (has_key free (tag_of the_type q)) → in_ranges? (ranges q s) ≡ true
unfolding in_ranges? passes
told (PrintCode a) s t = refl
told Clear s t = refl
told CursorOff s t = refl
told CursorOn s t = refl
told (Put a b) s t = absurd t
told (Charset a) s t = absurd t
told Copy s t = refl
told EraseLine s t = refl
told EraseRest s t = refl
told SecretOn s t = refl
told SecretOff s t = refl
told (LinesUp a b) s t = absurd t
told (LinesDown a b) s t = absurd t
told (Step a) s t = absurd t
told (Tracking a) s t = absurd t
told WindowUp s t = refl
told WindowDown s t = refl
told InsOn s t = refl
told InsOff s t = refl
told CapsOn s t = refl
told CapsOff s t = refl
told NumOn s t = refl
told NumOff s t = refl
told StringsOff s t = refl
told StringsOn s t = refl
told (DrawLine a b c d e f g h i j k) s t = absurd t
told (DrawDot a b c d) s t = absurd t
told (Mode0 a b) s t = absurd t
told (Mode1 a) s t = absurd t
told (Mode2 a b c) s t = absurd t
told Mode3 s t = refl
told (Select a) s t = absurd t
told (Cover a b c) s t = absurd t
told (Display a) s t = absurd t
told WindowTop s t = refl
told WindowBottom s t = refl
told (CursorKind a) s t = absurd t
told WindowCursor s t = refl
told (Pattern a b) s t = absurd t
told (Repeat a) s t = absurd t
told (RepeatDelay a) s t = absurd t
told (RepeatInterval a) s t = absurd t
told (Arrows1 a b c d) s t = refl
told (Arrows2 a b c d) s t = refl
told (Arrows3 a b c d) s t = refl
told Nothing s t = refl
told (Shift a) s t = absurd t

-- what the exit of a `?` hands on
pub leaving : (r : Result (Unit {0}) ℕ) {p : ℕ} → IsErr r × IsErrAnd r (λ y. y ≡ p) → r ≡ Err p
leaving r h = let z = err_from_is_err_and r h.1 in z.1 ∙ ap Err z.2

-- the parts of a verdict
abbrev fault : Result (Unit {0}) ℕ → ℕ
fault (Ok x) = 0
fault (Err p) = p

verdict_ok : (b : Bool) (n : ℕ) → Ok tt ≡ verdict b n → b ≡ true
verdict_ok true n e = refl
verdict_ok false n e = absurd (differ (ap is_ok e))

verdict_err : (b : Bool) (n : ℕ) {p : ℕ} → Err p ≡ verdict b n → (b ≡ false) × (p ≡ n)
verdict_err true n e = absurd (differ (sym (ap is_ok e)))
verdict_err false n e = (refl, ap fault e)

pub none_bad : (q : Seq) (s : Limits) → OneOf free (tag_of the_type q) → Finds (judged_ranges q s) (Ok tt)
unfolding judged_ranges in_ranges?
none_bad q s o = rw (cond_at (λ cs. in_ranges? cs ≡ true) (idle? s.mode (code_of q)) [] (ranges q s) (λ e. refl) (λ e. told q s (key_of free (tag_of the_type q) o)))

pub no_copy : (q : Seq) → OneOf others (tag_of the_type q) → eqb (code_of q) 80 ≡ false
no_copy q = none_passes (λ c. eqb c 80) others q refl

pub no-stroke : (q : Seq) → OneOf undrawn (tag_of the_type q) → eqb (code_of q) 198 ≡ false
no-stroke q = none_passes (λ c. eqb c 198) undrawn q refl

pub stroke_finds : {q k : Seq} {v : Result (Unit {0}) ℕ} (s : Limits) → q ≡ k → eqb (code_of k) 198 ≡ true → Finds (cond (eqb (code_of q) 198) (ranges q s) []) v → Finds (ranges q s) v
stroke_finds {q} {v = v} s e t h = subst (λ (b : Bool). Finds (cond b (ranges q s) []) v) (ap (λ (k : Seq). eqb (code_of k) 198) e ∙ t) h

-- a copy is idle in no mode
pub no-copy_idle : (mode c : ℕ) → idle? mode c ≡ true → eqb c 80 ≡ false
unfolding idle? member
no-copy_idle mode c e = ne_eqb c 80 (λ f. differ (sym e ∙ ap (idle? mode) f ∙ by_test (λ b. cond b false false ≡ false) (eqb mode 3) refl refl))

-- no checks
pub no_check : Finds [] (Ok tt)
unfolding in_ranges?
no_check = refl

-- one check in front: it fails, or what is found of those behind it is found of all
module _ (n : ℕ) (c : Check) (cs : List Check) where
  pub fails : {p : ℕ} → Err p ≡ verdict (passes c) n → FindsFrom n (c ∷ cs) (Err p)
  unfolding in_ranges? first_bad
  fails e = let z = verdict_err (passes c) n e in rw (z.0, z.1)

  pub holds : {v : Result (Unit {0}) ℕ} → Ok tt ≡ verdict (passes c) n → FindsFrom (n + 1) cs v → FindsFrom n (c ∷ cs) v
  unfolding in_ranges? first_bad
  holds e h = rw (verdict_ok (passes c) n e) h

-- the last one
pub last : (n : ℕ) (c : Check) → FindsFrom n (c ∷ []) (verdict (passes c) n)
unfolding in_ranges? first_bad
last n c = by_test (λ (b : Bool). verdict b n ≡ verdict (b && true) (cond b 0 n)) (passes c) refl refl

-- the last two
pub two : (n : ℕ) (c d : Check) → FindsFrom n (c ∷ d ∷ []) (verdict (passes c && passes d) (cond (passes c) (n + 1) n))
unfolding in_ranges? first_bad
two n c d =
    by_test (λ (p : Bool). verdict (p && passes d) (cond p (n + 1) n) ≡ verdict (p && (passes d && true)) (cond p (cond (passes d) 0 (n + 1)) n)) (passes c)
    (by_test (λ (q : Bool). verdict q (n + 1) ≡ verdict (q && true) (cond q 0 (n + 1))) (passes d) refl refl) refl

-- behind one that is free: the mode byte of 208, the high byte of a number
pub behind_free : (n : ℕ) (cs : List Check) (v : Result (Unit {0}) ℕ) → FindsFrom (n + 1) cs v → FindsFrom n (any ∷ cs) v
unfolding in_ranges? first_bad passes
behind_free n cs v h = h

pub two_on : (n : ℕ) → n + 2 ≡ n + 1 + 1
two_on n = omega arith

-- checks that all pass, and checks of which one fails, with others behind them
past : (n : ℕ) (cs ds : List Check) → in_ranges? cs ≡ true → (in_ranges? (cs ++ ds) ≡ in_ranges? ds) × (first_bad n (cs ++ ds) ≡ first_bad (n + length cs) ds)
unfolding in_ranges? first_bad
past n [] ds e = (refl, ap (λ (k : ℕ). first_bad k ds) (sym (add-zero n)))
past n (c ∷ cs) ds e =
    let t : passes c ≡ true = and_left (passes c) (in_ranges? cs) e in
    let z = past (n + 1) cs ds (and_right (passes c) _ e) in
    let k : n + 1 + length cs ≡ n + suc (length cs) = omega arith in
    (rw t z.0, rw t (z.1 ∙ ap (λ (j : ℕ). first_bad j ds) k))

within : (n : ℕ) (cs ds : List Check) → in_ranges? cs ≡ false → (in_ranges? (cs ++ ds) ≡ false) × (first_bad n (cs ++ ds) ≡ first_bad n cs)
unfolding in_ranges? first_bad
within n [] ds e = absurd (differ e)
within n (c ∷ cs) ds e = go (passes c) e (within (n + 1) cs ds)
  where
    go : (b : Bool) → (b && in_ranges? cs) ≡ false → (in_ranges? cs ≡ false → (in_ranges? (cs ++ ds) ≡ false) × (first_bad (n + 1) (cs ++ ds) ≡ first_bad (n + 1) cs))
        → ((b && in_ranges? (cs ++ ds)) ≡ false) × (cond b (first_bad (n + 1) (cs ++ ds)) n ≡ cond b (first_bad (n + 1) cs) n)
    go true f rest = rest f
    go false f rest = (refl, refl)

pub some_fail : (n : ℕ) (cs ds : List Check) {p : ℕ} → FindsFrom n cs (Err p) → FindsFrom n (cs ++ ds) (Err p)
some_fail n cs ds e = let z = verdict_err (in_ranges? cs) (first_bad n cs) e in let t = within n cs ds z.0 in rw (t.0, t.1, z.1)

pub all_hold : (n : ℕ) (cs ds : List Check) {v : Result (Unit {0}) ℕ} → FindsFrom n cs (Ok tt) → FindsFrom (n + length cs) ds v → FindsFrom n (cs ++ ds) v
all_hold n cs ds e h = let t = past n cs ds (verdict_ok (in_ranges? cs) (first_bad n cs) e) in rw (t.0, t.1) h

-- a sequence by whether it is idle, which at a known second byte is a choice by the mode
module _ (q : Seq) (s : Limits) where
  by_idle : (v : Result (Unit {0}) ℕ) (b : Bool) → idle? s.mode (code_of q) ≡ b → Finds (cond b [] (ranges q s)) v → Finds (judged_ranges q s) v
  unfolding judged_ranges
  by_idle v b e h = subst (λ (x : Bool). Finds (cond x [] (ranges q s)) v) (sym e) h

  -- in no mode
  pub in_any : (v : Result (Unit {0}) ℕ) → idle? s.mode (code_of q) ≡ cond (eqb s.mode 3) false false → Finds (ranges q s) v → Finds (judged_ranges q s) v
  in_any v e = by_idle v false (e ∙ by_test (λ b. cond b false false ≡ false) (eqb s.mode 3) refl refl)

  -- in mode 3 alone, with one check
  pub but_there : (c : Check) → ranges q s ≡ c ∷ [] → idle? s.mode (code_of q) ≡ cond (eqb s.mode 3) true false → Finds (judged_ranges q s) (verdict (passes c || eqb s.mode 3) 1)
  but_there c f e = by_idle _ _ e (rw f (go (eqb s.mode 3)))
    where
      go : (b : Bool) → Finds (cond (cond b true false) [] (c ∷ [])) (verdict (passes c || b) 1)
      go true = by_test (λ p. Finds [] (verdict (p || true) 1)) (passes c) no_check no_check
      go false = subst (λ (p : Bool). Finds (c ∷ []) (verdict p 1)) (by_test (λ p. p ≡ (p || false)) (passes c) refl refl) (last 1 c)

  -- in all but mode 3
  module _ (mode : ℕ) (is : s.mode ≡ mode) (draws : idle? s.mode (code_of q) ≡ cond (eqb s.mode 3) false true) where
    pub drawn_there : (v : Result (Unit {0}) ℕ) → mode ≡ 3 → Finds (ranges q s) v → Finds (judged_ranges q s) v
    drawn_there v f = by_idle v false (draws ∙ ap (λ (b : Bool). cond b false true) (eq-eqb s.mode 3 (is ∙ f)))

    pub drawn_elsewhere : (mode ≡ 3 → ⊥) → Finds (judged_ranges q s) (Ok tt)
    drawn_elsewhere f = by_idle _ true (draws ∙ ap (λ (b : Bool). cond b false true) (ne_eqb s.mode 3 (λ g. f (sym is ∙ g)))) no_check

-- a sequence once its parameters are looked at
module _ (q : Seq) (s : Limits) (room : ℕ) where
  pub judged_good : Finds (judged_ranges q s) (Ok tt) → fitting s.mode (Sequence q) room ≡ judged (Sequence q) s room
  unfolding allowed legal?
  judged_good e = ap (λ (b : Bool). fitting s.mode (cond b (Sequence q) (Refused 11 (bad_of q s))) room) (sym (verdict_ok _ _ e))

  pub judged_bad : {p : ℕ} → Finds (judged_ranges q s) (Err p) → Refused 11 p ≡ judged (Sequence q) s room
  unfolding bad_of legal?
  judged_bad e = let z = verdict_err (in_ranges? (judged_ranges q s)) (first_bad 1 (judged_ranges q s)) e in ap (λ (n : ℕ). Refused 11 n) z.1 ∙ sym (refused_by_lem q s room z.0)

-- an item that is no sequence is not judged
pub unjudged : (i : Item) (s : Limits) (room : ℕ) → OneOf (0 ∷ 1 ∷ 3 ∷ []) (tag_of item-type i) → i ≡ judged i s room
unfolding allowed fitting
unjudged (Printed c) s room o = refl
unjudged (Control c) s room o = refl
unjudged (Sequence q) s room o = absurd (key_of (0 ∷ 1 ∷ 3 ∷ []) 2 o)
unjudged (Refused n p) s room o = refl
