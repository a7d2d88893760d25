-- P6: a list of calls, with each pack replaced by its messages, does the same: by requests, since a pack does what its messages do (PackRequests in the crate `calls`).
use mathlib.Core.Path.{◌∙◌, ◌≡◌, ap, refl, sym}
use Prim.Native.Nat.{ℕ}
use mathlib.Core.Bool.{Bool, cond, false, true}
use mathlib.Core.List.{List, [], ◌++◌, ◌∷◌, append-nil}
use Rattle.model.specs.declared.Answer.{Answer}
use Rattle.calls.specs.Packs.{bodies_of}
use Rattle.model.specs.Items.{Event, blank_answer, copies}
use Rattle.calls.specs.Calls.{Asked, Request, Terminal, granted, answer_of, closing, events_by, events_in, key_text, message, number_of, pack, packed?, packed_by, piece, short, request, served}
use Rattle.calls.specs.Lists.{events_over, one_by_one, stands, stands_for, unpacked}
use Rattle.model.specs.Answers.{together}
use Rattle.model.proofs.Tests.{cond_at}
use Rattle.calls.proofs.CallLaws.{refused_answer, refused_leaves}
use Rattle.model.proofs.AnswerLaws.{joint_refused, together_assoc}
use Rattle.calls.proofs.OverRequests.{answers_over, printed_over, answers_over_lem, events_over_lem, prints_over, stands_append}
use Rattle.calls.proofs.PackRequests.{pack_answer, pack_events, pack_stands}

-- requests that do what one does, together
record Alike (t : Terminal) (q : Request) (qs : List Request) : Type 0 where
  same_left : stands t qs ≡ served t q
  same_events : events_over t qs ≡ events_in t q
  same_answers : (b : Answer) → together (answers_over t qs) b ≡ together (answer_of t q) b

module _ (t : Terminal) where
  -- it itself
  alike_itself : (q : Request) → Alike t q (q ∷ [])
  unfolding stands events_over answers_over
  alike_itself q = record {
    same_left = refl;
    same_events = append-nil (events_in t q);
    same_answers = λ b. sym (together_assoc (answer_of t q) (blank_answer 0 0) b) ∙ ap (together (answer_of t q)) (joint_refused 0 b);
  }

  -- none, where it is refused
  alike_none : (q : Request) → granted t q ≡ false → Alike t q []
  unfolding stands events_over answers_over events_in
  alike_none q e = record {
    same_left = sym (refused_leaves t q e);
    same_events = sym (ap (λ (b : Bool). cond b (events_by t q) []) e);
    same_answers = λ b. joint_refused 0 b ∙ sym (ap (λ (a : Answer). together a b) (refused_answer t q e) ∙ joint_refused (number_of t q) b);
  }

  -- the messages of an accepted pack
  alike_sent : (p : List ℕ) (room : ℕ) → granted t (request (pack p) room) ≡ true → Alike t (request (pack p) room) (one_by_one t (bodies_of p) room)
  alike_sent p room e =
      record { same_left = sym (pack_stands t p room e); same_events = sym (pack_events t p room e); same_answers = λ b. ap (λ (a : Answer). together a b) (sym (pack_answer t p room e)) }

  -- so what it stands for
  alike : (q : Request) → Alike t q (stands_for t q)
  unfolding stands_for
  alike q = go q.asked
    where
      go : (a : Asked) → let q = request a q.room in Alike t q (cond (packed? a) (cond (granted t q) (one_by_one t (packed_by a) q.room) []) (q ∷ []))
      go (message m) = alike_itself (request (message m) q.room)
      go (piece m) = alike_itself (request (piece m) q.room)
      go closing = alike_itself (request closing q.room)
      go (key_text k x) = alike_itself (request (key_text k x) q.room)
      go (short m) = alike_itself (request (short m) q.room)
      go (pack p) =
          let q : Request = request (pack p) q.room in
          cond_at (Alike t q) (granted t q) (one_by_one t (bodies_of p) q.room) [] (λ e. alike_sent p q.room e) (λ e. alike_none q e)

-- and a list with each pack replaced by its messages
pub stands_unpacked : (qs : List Request) (t : Terminal) → stands t (unpacked t qs) ≡ stands t qs
unfolding stands unpacked
stands_unpacked [] t = refl
stands_unpacked (q ∷ qs) t =
    stands_append t (stands_for t q) (unpacked (served t q) qs) ∙ ap (λ (x : Terminal). stands x (unpacked (served t q) qs)) (alike t q).same_left ∙ stands_unpacked qs (served t q)

pub events_unpacked : (qs : List Request) (t : Terminal) → events_over t (unpacked t qs) ≡ events_over t qs
unfolding events_over unpacked
events_unpacked [] t = refl
events_unpacked (q ∷ qs) t =
    events_over_lem t (stands_for t q) (unpacked (served t q) qs)
    ∙ (λ i. (alike t q).same_events i ++ (ap (λ (x : Terminal). events_over x (unpacked (served t q) qs)) (alike t q).same_left ∙ events_unpacked qs (served t q)) i)

pub answers_unpacked : (qs : List Request) (t : Terminal) → answers_over t (unpacked t qs) ≡ answers_over t qs
unfolding answers_over unpacked
answers_unpacked [] t = refl
answers_unpacked (q ∷ qs) t =
    answers_over_lem t (stands_for t q) (unpacked (served t q) qs)
    ∙ ap (together (answers_over t (stands_for t q))) (ap (λ (x : Terminal). answers_over x (unpacked (served t q) qs)) (alike t q).same_left ∙ answers_unpacked qs (served t q))
    ∙ (alike t q).same_answers (answers_over (served t q) qs)

pub prints_unpacked : (qs : List Request) (t : Terminal) → printed_over t (unpacked t qs) ≡ printed_over t qs
prints_unpacked qs t = prints_over t (unpacked t qs) ∙ ap (λ (es : List Event). copies es t.state) (events_unpacked qs t) ∙ sym (prints_over t qs)
