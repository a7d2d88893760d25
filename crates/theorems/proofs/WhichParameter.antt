-- P10's claim (specs/WhichParameter): of sequences and items by ParameterLaws of the crate `model`; of the answers by demand 3, which are the rules' own, over the items that these count.
use mathlib.Core.Path.{refl, subst, sym}
use Prim.Native.Nat.{ℕ}
use mathlib.Core.List.{List, [], ◌∷◌}
use Rattle.model.specs.declared.Answer.{Answer}
use Rattle.model.specs.State.{State}
use Rattle.model.specs.Reading.{Read, uncut}
use Rattle.calls.specs.Packs.{reads_each}
use Rattle.model.specs.Items.{blank_answer, counted_all, reads_of}
use Rattle.calls.specs.Calls.{Request, Terminal, granted, answer_of, number_of, reads_in, request_of, taken_in}
use Rattle.calls.proofs.Printing.{reads_either}
use Rattle.model.proofs.AnswerLaws.{counted_append}
use Rattle.calls.specs.Lists.{stood}
use Rattle.model.specs.Parameters.{Named}
use Rattle.theorems.specs.WhichParameter.{Naming}
use Rattle.model.proofs.Tests.{cond_at}
use Rattle.theorems.proofs.Demand3.{demand3}
use Rattle.model.proofs.ParameterLaws.{FirstIn, all_named, first_in_lem, legal_named, mode_byte, none_named, numbered, read_named, refused_by_lem, refused_first}

-- P6: of messages one after the other too
each_named : (ms : List (List ℕ)) (st : State) (room : ℕ) (a : Answer) → Named a.first a.parameter → let b = counted_all (reads_each ms st room) a in Named b.first b.parameter
unfolding counted_all reads_each
each_named [] st room a g = g
each_named (m ∷ ms) st room a g =
    let rs : List Read = reads_of (uncut m) 0 st room in
    subst (λ (b : Answer). Named b.first b.parameter) (sym (counted_append rs _ a)) (each_named ms _ _ (counted_all rs a) (all_named (uncut m) 0 st room a g))

answer_named : (t : Terminal) (q : Request) → Named (answer_of t q).first (answer_of t q).parameter
unfolding answer_of reads_in counted_all
answer_named t q =
    let none : Answer = blank_answer (number_of t q) (taken_in t q) in
    let Names : List Read → Type 0 = λ rs. Named (counted_all rs none).first (counted_all rs none).parameter in
    cond_at Names (granted t q) _ []
    (λ e. reads_either Names t q (λ ms. each_named ms t.state q.room none none_named) (λ bss at. all_named bss at t.state q.room none none_named)) (λ e. none_named)

answer_first : (t : Terminal) (q : Request) → FirstIn (reads_in t q) (answer_of t q)
unfolding answer_of
answer_first t q = first_in_lem (reads_in t q) (blank_answer (number_of t q) (taken_in t q)) (refl, refl, refl, refl)

pub naming : Naming
naming =
    record {
      legal = legal_named;
      first = λ q s room e. (refused_by_lem q s room e, refused_first q s e);
      numbered = numbered;
      mode_byte = mode_byte;
      items = read_named;
      passed_on = λ t cs made n c h. subst (FirstIn (reads_in (stood t cs n) (request_of c))) (sym ((demand3 t cs made).answers n c h)) (answer_first _ (request_of c));
      answers = λ t cs made n c h. subst (λ (a : Answer). Named a.first a.parameter) (sym ((demand3 t cs made).answers n c h)) (answer_named _ (request_of c));
    }
