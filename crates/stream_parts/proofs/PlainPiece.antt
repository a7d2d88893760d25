-- A piece while none waits, well within the limit: a message call of its whole items, under the settings as they are, is all of it; what is behind
-- them waits.
use mathlib.Core.Path.{◌∙◌, ◌≡◌, ap, refl, sym}
use Prim.Native.Nat.{◌+◌, ◌-◌, ◌^◌, ◌<◌, ◌≤◌, ℕ}
use native.Mathlib.Omega.{arith}
use mathlib.Core.Bool.{true}
use mathlib.Core.List.{List, []}
use lib.ListN.{drop, length, length-drop, length-take, take}
use lib.Seq.{take_all}
use borrow.Author.Tests.{eq-eqb, le-leb}
use Rattle.model.specs.declared.Answer.{Answer}
use Rattle.model.specs.declared.Settings.{Settings}
use Rattle.model.specs.State.{State, state, with_line}
use Rattle.model.specs.Line.{held_in, limit, padded}
use Rattle.model.specs.Reading.{gathered, remaining, uncut}
use Rattle.model.specs.Rules.{with_settings}
use Rattle.model.specs.Items.{lined}
use Rattle.calls.specs.Calls.{Promised, Request, Terminal, granted, called, countable, first_of, item_bytes, message, none_waits, piece, pieced, reasons, request, sendable, start_of, taken_by, terminal}
use Rattle.calls.specs.Claims.{count_after, waits_after}
use Rattle.calls.proofs.CallLaws.{granted_number, granted_sound, answer_number}
use Rattle.model.proofs.Gathering.{none_unfinished}
use Rattle.calls.proofs.LineAfter.{leaves_lined, self_lined}
use Rattle.calls.proofs.Offsets.{further}
use Rattle.calls.proofs.PieceServings.{taking}
use Rattle.calls.proofs.Wholes.{whole_read, whole_rest}
use Rattle.unfinished.specs.Whole.{whole_end}
use Rattle.stream_parts.specs.Parts.{counted_from}
use Rattle.calls.proofs.Bounds.{bounded}
use Rattle.calls.proofs.Joining.{end_within, rest_most}
use Rattle.stream_parts.proofs.Numbers.{granted_with, one_or_three, piece_number, refused_with_lem, served_with}

-- none waits, and it is small; where its whole items end
pub record Plain (s : Settings) (m : List ℕ) (end : ℕ) : Type 0 where
  pub none : s.held ≡ 0
  pub few : length m ≤ 4096
  pub low : s.count ≤ 999995904
  pub ends : end ≡ whole_end m

module _ {s : Settings} {m : List ℕ} {end : ℕ} (x : Plain s m end) where
  abbrev front : List ℕ
  front = take end m

  abbrev rest : List ℕ
  rest = take (length m - end) (drop end m)

  pub plain_end : end ≤ length m
  unfolding whole_end
  plain_end = omega (arith, end_within m)

  rest_is : rest ≡ remaining [] m
  unfolding whole_end
  rest_is = take_all (length m - end) (drop end m) (omega (arith, length-drop end m)) ∙ ap (λ (n : ℕ). drop n m) x.ends ∙ whole_rest m

  pub plain_rest : length rest ≤ 12
  plain_rest = omega (arith, ap length rest_is, rest_most [] m none_unfinished)

  cut : gathered [] m ≡ uncut front
  unfolding whole_end
  cut = sym (ap (λ (n : ℕ). uncut (take n m)) x.ends ∙ whole_read m)

  nothing : held_in s ≡ []
  nothing = ap (λ (h : ℕ). take h s.waiting) x.none

  start_is : s.count ≡ start_of s (piece m)
  unfolding start_of
  start_is = omega (arith, ap length nothing)

  waits : rest ≡ waits_after s (piece m)
  unfolding waits_after
  waits = rest_is ∙ ap (λ (w : List ℕ). remaining w m) (sym nothing)

  quiet : none_waits s ≡ true
  unfolding none_waits
  quiet = eq-eqb s.held 0 x.none

  size : length front ≤ 4096
  size = omega (arith, length-take end m)

  small : sendable front ≡ true
  small = le-leb (length front) 4096 size

  -- the message call of them
  module _ (cells layer dots shown buffer : List ℕ) (b : Answer) (s' : Settings) (cells' layer' dots' shown' p : List ℕ) (w : Promised (called front (terminal s cells layer dots shown) buffer b (terminal s' cells' layer' dots' shown') p)) where
    abbrev t : Terminal
    t = terminal s cells layer dots shown

    abbrev l : Terminal
    l = terminal s' cells' layer' dots' shown'

    only : first_of (reasons t (piece m)) ≡ one_or_three t
    unfolding countable
    only = piece_number t m (le-leb (length m) 4096 x.few) (le-leb (s.count + length m) limit (omega arith))

    pub plain_near : s.count + b.offset < 2 ^ 32
    plain_near = omega (arith, (bounded front t buffer b l p w).near, size)

    pub plain_refused : (b.number ≡ 0 → ⊥) → Promised (pieced m t buffer b l p)
    plain_refused z = refused_with_lem t (piece m) only t front refl refl small quiet buffer b l p w z l (λ e. e)

    -- the settings are sound then, and as they are where none waits
    as_quiet : b.number ≡ 0 → t.state ≡ lined [] s.count t.state
    as_quiet z =
        sym (self_lined t.state (granted_sound t (request (piece m) (length buffer)) (granted_with t (piece m) only t front refl refl small quiet buffer b l p w z)))
        ∙ ap (λ (v : List ℕ). lined v s.count t.state) nothing

    pub plain_served : b.number ≡ 0 → (answer : Answer) (r : Settings) → answer ≡ counted_from s.count (length m) b → r ≡ with_line s' (padded rest) (length rest) (s.count + length m)
        → Promised (pieced m t buffer answer (terminal r cells' layer' dots' shown') p)
    unfolding item_bytes count_after taken_by lined with_settings
    plain_served z answer r f g =
        served_with t (piece m) only t front refl refl small quiet buffer b l p w refl refl z s.count (as_quiet z) (ap (λ (v : List ℕ). gathered v m) nothing ∙ cut)
        answer (terminal r cells' layer' dots' shown') (f ∙ ap (λ (n : ℕ). taking (length m) (further n b)) start_is)
        ((λ i. state (g i) cells' layer' dots') ∙ (λ i. lined (waits i) (s.count + length m) (state s' cells' layer' dots'))) refl

    -- an accepted message leaves none waiting
    none_left : b.number ≡ 0 → (s'.waiting ≡ padded []) × (s'.held ≡ 0)
    unfolding waits_after lined with_settings
    none_left z =
        let q : Request = request (message front) (length buffer) in
        let ok : granted t q ≡ true = granted_number t q (sym (ap (λ (x : Answer). x.number) w.answer_is ∙ answer_number t q) ∙ z) in
        let e = w.settings_are ∙ ap (λ (x : State). x.settings) (leaves_lined t (message front) (length buffer) ok refl) in
        (ap (λ (x : Settings). x.waiting) e, ap (λ (x : Settings). x.held) e)

    -- where all of it is whole, only the count is another
    pub plain-whole : b.number ≡ 0 → length m ≤ end → (answer : Answer) → answer ≡ counted_from s.count (length m) b
        → Promised (pieced m t buffer answer (terminal (with_line s' s'.waiting s'.held (s.count + length m)) cells' layer' dots' shown') p)
    plain-whole z u answer f =
        let e : 0 ≡ length m - end = omega arith in
        let v : [] ≡ rest = ap (λ (n : ℕ). take n (drop end m)) e in
        plain_served z answer _ f (λ i. with_line s' (((none_left z).0 ∙ ap padded v) i) (((none_left z).1 ∙ ap length v) i) (s.count + length m))
