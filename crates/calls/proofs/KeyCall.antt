-- P2: the key call's promise, for the code: its number by the settings, the key and the text alone; then the text in its place, or all as it came.
use mathlib.Core.Path.{◌∙◌, ◌≡◌, ap, refl, sym}
use Prim.Native.Nat.{◌*◌, ◌-◌, ℕ}
use mathlib.Core.Bool.{◌&&◌, false, true}
use mathlib.Core.List.{List, [], ◌∷◌}
use Rattle.model.specs.declared.Answer.{Answer}
use Rattle.model.specs.declared.Settings.{Settings}
use Rattle.model.specs.Bytes.{put, written}
use Rattle.model.specs.State.{with_texts}
use Rattle.model.specs.Sound.{sound?}
use Rattle.model.specs.Rules.{with_settings}
use Rattle.model.specs.Items.{blank_answer, copies, counted_all, reads_of, texted}
use Rattle.calls.specs.Calls.{KeyPromised, Request, Terminal, granted, all_free, first_of, item_bytes, key_text, keyed, number_of, reads_by, reason, reasons, request, served, sound_in, taken_by, terminal}
use Rattle.model.specs.Keyable.{keyable}
use Rattle.model.proofs.Tests.{and_both}
use Rattle.calls.proofs.CallLaws.{granted_answer, granted_prints, plain_record}
use Rattle.calls.proofs.LineAfter.{leaves_texted}
use Rattle.calls.proofs.Promises.{promised_none}

module _ (k : ℕ) (x : List ℕ) (s : Settings) where
  -- its number: 3, then 17; no store is looked at
  unfoldable pub key_number : ℕ
  key_number = first_of (reason 3 (sound? s) ∷ reason 17 (keyable k x) ∷ [])

  abbrev asked : Request
  asked = request (key_text k x) 0

  number_here_lem : (cells layer dots shown : List ℕ) → number_of (terminal s cells layer dots shown) asked ≡ key_number
  unfolding number_of reasons sound_in key_number
  number_here_lem cells layer dots shown = refl

  granted-here : (cells layer dots shown : List ℕ) → granted (terminal s cells layer dots shown) asked ≡ (sound? s && (keyable k x && true))
  unfolding granted reasons all_free sound_in
  granted-here cells layer dots shown = refl

  -- served: the text in its place
  pub promised_key : (answer : Answer) (left : Settings) → sound? s ≡ true → keyable k x ≡ true
      → left ≡ with_texts s (put ((k - 1) * 8) x s.texts) → answer ≡ blank_answer 0 0 → KeyPromised k x s answer left
  unfolding texted with_settings reads_by item_bytes reads_of taken_by counted_all copies written
  promised_key answer left e f l a cells layer dots shown =
      let d : Terminal = terminal s cells layer dots shown in
      let ok : granted d asked ≡ true = granted-here cells layer dots shown ∙ and_both (sound? s) (keyable k x && true) e (and_both (keyable k x) true f refl) in
      let z : served d asked ≡ record { state = texted k x d.state; shown = shown } = leaves_texted d k x 0 ok in
      record {
        answer_is = a ∙ sym (granted_answer d asked ok);
        record_is = sym (plain_record d asked refl);
        settings_are = l ∙ sym (ap (λ (y : Terminal). y.state.settings) z);
        cells_are = sym (ap (λ (y : Terminal). y.state.cells) z);
        layer_is = sym (ap (λ (y : Terminal). y.state.layer) z);
        dots_are = sym (ap (λ (y : Terminal). y.state.dots) z);
        shown_is = sym (ap (λ (y : Terminal). y.shown) z);
        printer_is = ap (λ (ys : List ℕ). written ys []) (sym (granted_prints d asked ok));
      }

  -- refused: "17, after 3, nothing changed"
  pub promised_key_refused : (answer : Answer) (left : Settings) → (sound? s && (keyable k x && true)) ≡ false
      → left ≡ s → answer ≡ blank_answer key_number 0 → KeyPromised k x s answer left
  promised_key_refused answer left e l a cells layer dots shown =
      promised_none (keyed k x s answer left cells layer dots shown) (granted-here cells layer dots shown ∙ e) (λ i. terminal (l i) cells layer dots shown)
      (a ∙ ap (λ (n : ℕ). blank_answer n 0) (sym (number_here_lem cells layer dots shown))) refl refl
