-- The claims of specs/Claims.
use mathlib.Core.Path.{◌∙◌, ◌≡◌, ap, refl, sym}
use Prim.Native.Nat.{ℕ, ◌≤◌}
use mathlib.Core.List.{List, [], ◌∷◌, append-nil}
use lib.ListN.{length}
use Rattle.model.specs.declared.Settings.{Settings}
use Rattle.model.specs.declared.Sequence.{Sequence as Seq}
use Rattle.model.specs.declared.Item.TheVariants.{Sequence}
use Rattle.model.specs.Bytes.{joined}
use Rattle.model.specs.State.{State, with_line}
use Rattle.model.specs.Picture.{copy_size_of}
use Rattle.model.specs.Screens.{columns_of, height, lines_of, text_rows}
use Rattle.model.specs.Reading.{item_of, uncut}
use Rattle.model.specs.Judging.{judged, limits_of}
use Rattle.model.specs.Items.{printer_bytes, reads_of}
use Rattle.spelling.specs.Spelling.{bytes_of, standing}
use Rattle.spelling.specs.Claims.{Sent}
use Rattle.spelling.proofs.Claimed.{spelling}
use Rattle.writer.specs.Writing.{said, wanted, wanted_by, number_of}
use Rattle.writer.specs.Several.{sent_by}
use Rattle.writer.specs.Claims.{Writes, Writing}
use Rattle.writer.proofs.Laws.{wanted-named}
use Rattle.writer.proofs.Accepted.{back_again, bytes_before, bytes_behind, number_named, parameter_named, passed}
use Rattle.writer.proofs.Behind.{cut_again, reads_again}
use Rattle.writer.proofs.Only.{only-given}

module _ (s : Settings) (q : Seq) (rows : List ℕ) (e : length rows ≡ 8) where
  -- a message of one sequence is cut into that one
  cut_one : uncut (bytes_of q rows) ≡ bytes_of q rows ∷ []
  unfolding joined
  cut_one = let x : Sent = record { sequence = q; rows = rows; eight = e } in ap uncut (sym (append-nil (bytes_of q rows))) ∙ spelling.several (x ∷ [])

  reads_one : (b : List ℕ) (at : ℕ) → number_of s (wanted s q rows) b at ≡ 0 → (st : State) (room : ℕ) → st.settings ≡ s → copy_size_of s.mode ≤ room
      → reads_of (uncut (bytes_of q rows)) 0 st room ≡ record { at = 0; item = Sequence (standing 0 q); bytes = bytes_of q rows; prints = printer_bytes s.mode (Sequence (standing 0 q)) } ∷ []
  unfolding reads_of
  reads_one b at z st room k h =
      let p : judged (item_of 0 (bytes_of q rows)) (limits_of st.settings) room ≡ Sequence (standing 0 q)
      = ap (λ (u : Settings). judged (item_of 0 (bytes_of q rows)) (limits_of u) room) k ∙ back_again s q rows e (passed s (wanted s q rows) b at z).unrefused 0 room h in
      ap (λ (l : List (List ℕ)). reads_of l 0 st room) cut_one ∙ (λ i. record { at = 0; item = p i; bytes = bytes_of q rows; prints = printer_bytes (k i).mode (p i) } ∷ [])

  word_aside : (w : List ℕ) (h n : ℕ) → said (with_line s w h n) (bytes_of q rows) ≡ said s (bytes_of q rows)
  unfolding said lines_of columns_of height text_rows
  word_aside w h n = refl

  writes : (b : List ℕ) (at : ℕ) → Writes s q rows b at
  writes b at = record {
    number = number_named s q rows e b at;
    parameter = parameter_named s q rows e;
    before = bytes_before s (wanted s q rows) b at;
    behind = bytes_behind s (wanted s q rows) b at;
    back = λ z. back_again s q rows e (passed s (wanted s q rows) b at z).unrefused;
    message = reads_one b at;
    aside = word_aside;
    given = wanted-named s q rows _ e (spelling.back q rows e).given;
  }

pub writing : Writing
writing = record {
  writes = λ s q rows b at e. writes s q rows e b at;
  only = λ s second ps b at z. only-given s second ps (passed s (wanted_by s second ps) b at z).unrefused;
  several = cut_again;
  reads = λ cs b at o st room h. reads_again (sent_by cs b at) o st room h;
}
