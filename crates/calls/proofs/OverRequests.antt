-- Requests one behind the other: what stands after them and what they print is what their events make and print; and of a list behind a list.
use mathlib.Core.Path.{◌∙◌, ◌≡◌, ap, refl, sym}
use Prim.Native.Nat.{ℕ}
use mathlib.Core.List.{List, [], ◌++◌, ◌∷◌, append_assoc}
use Rattle.model.specs.declared.Answer.{Answer}
use Rattle.model.specs.Items.{apply_all, blank_answer, copies, Event}
use Rattle.calls.specs.Calls.{Request, Terminal, answer_of, printed_by, served, events_in}
use Rattle.calls.specs.Lists.{stands, events_over}
use Rattle.model.specs.Answers.{together}
use Rattle.model.proofs.AnswerLaws.{joint_refused, together_assoc}
use Rattle.model.proofs.Events.{apply_append}
use Rattle.calls.proofs.Printing.{copies_append}
use Rattle.calls.proofs.CallLaws.{state_served}

-- the printer bytes
unfoldable pub printed_over : Terminal → List Request → List ℕ
printed_over t [] = []
printed_over t (q ∷ qs) = printed_by t q ++ printed_over (served t q) qs

-- the answers, as one
unfoldable pub answers_over : Terminal → List Request → Answer
answers_over t [] = blank_answer 0 0
answers_over t (q ∷ qs) = together (answer_of t q) (answers_over (served t q) qs)

-- what stands after a list is what its events made
pub state_stands : (t : Terminal) (qs : List Request) → (stands t qs).state ≡ apply_all (events_over t qs) t.state
unfolding stands events_over apply_all
state_stands t [] = refl
state_stands t (q ∷ qs) =
    state_stands (served t q) qs ∙ ap (apply_all (events_over (served t q) qs)) (state_served t q) ∙ sym (apply_append (events_in t q) (events_over (served t q) qs) t.state)

-- and what it prints is what they print
pub prints_over : (t : Terminal) (qs : List Request) → printed_over t qs ≡ copies (events_over t qs) t.state
unfolding printed_over events_over copies printed_by
prints_over t [] = refl
prints_over t (q ∷ qs) =
    ap (λ (l : List ℕ). printed_by t q ++ l) (prints_over (served t q) qs ∙ ap (copies (events_over (served t q) qs)) (state_served t q))
    ∙ sym (copies_append (events_in t q) (events_over (served t q) qs) t.state)

-- a list behind a list
pub stands_append : (t : Terminal) (xs ys : List Request) → stands t (xs ++ ys) ≡ stands (stands t xs) ys
unfolding stands
stands_append t [] ys = refl
stands_append t (x ∷ xs) ys = stands_append (served t x) xs ys

pub events_over_lem : (t : Terminal) (xs ys : List Request) → events_over t (xs ++ ys) ≡ events_over t xs ++ events_over (stands t xs) ys
unfolding stands events_over
events_over_lem t [] ys = refl
events_over_lem t (x ∷ xs) ys =
    ap (λ (l : List Event). events_in t x ++ l) (events_over_lem (served t x) xs ys) ∙ sym (append_assoc (events_in t x) (events_over (served t x) xs) (events_over (stands (served t x) xs) ys))

pub answers_over_lem : (t : Terminal) (xs ys : List Request) → answers_over t (xs ++ ys) ≡ together (answers_over t xs) (answers_over (stands t xs) ys)
unfolding stands answers_over
answers_over_lem t [] ys = sym (joint_refused 0 (answers_over t ys))
answers_over_lem t (x ∷ xs) ys =
    ap (together (answer_of t x)) (answers_over_lem (served t x) xs ys) ∙ together_assoc (answer_of t x) (answers_over (served t x) xs) (answers_over (stands (served t x) xs) ys)
