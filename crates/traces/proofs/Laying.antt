-- Writing the codes: bytes put one behind the other. In every loop, what stands with the codes that are left put behind it is the whole output.
use mathlib.Core.Path.{◌∙◌, ◌≡◌, ap, refl, sym}
use Prim.Native.Nat.{◌+◌, ◌*◌, ◌/◌, ◌%◌, ◌<◌, ◌≤◌, suc, ℕ}
use native.Mathlib.Omega.{arith}
use mathlib.Core.List.{List, [], ◌++◌, ◌∷◌, append_assoc}
use lib.ListN.{drop, length, length-append, set, take}
use Rattle.std.specs.Int.{to_le_bytes, w32}
use Rattle.model.specs.declared.Keys.{Keys}
use Rattle.model.specs.Bytes.{put}
use Rattle.model.proofs.ByteLaws.{length-put}
use Rattle.store.proofs.Laws.{lent, put-more, put-none, put_then}
use Rattle.traces.specs.declared.Stroke.{Stroke}
use Rattle.traces.specs.Codes.{Code, code, code_bytes, codes_bytes, every_from, first_repeat, repeat_count, sent, sent_at, sent_by, tick_bytes}
use Rattle.traces.proofs.Counting.{every_length}

-- a tick's bytes copied to a place, then the key
pub tick_four : (t : ℕ) → t < 4294967296 → to_le_bytes w32 t ≡ tick_bytes t
unfolding tick_bytes
tick_four t h =
    let third : t / 65536 % 256 ≡ t / 256 / 256 % 256 = omega arith in
    let fourth : t / 16777216 % 256 ≡ t / 256 / 256 / 256 = omega arith in
    λ i. t % 256 ∷ t / 256 % 256 ∷ third i ∷ fourth i ∷ []

four_put : (p n tick : ℕ) (xs : List ℕ) {ys : List ℕ} → ys ≡ tick_bytes tick → n ≡ 4 → take p xs ++ (ys ++ drop n (drop p xs)) ≡ put p (tick_bytes tick) xs
unfolding put tick_bytes
four_put p n tick xs e f = lent p 4 n (λ zs. tick_bytes tick) xs e f

pub five_put : (p n tick key : ℕ) (xs : List ℕ) {ys : List ℕ} → ys ≡ tick_bytes tick → n ≡ 4 → p + 5 ≤ length xs
    → set (take p xs ++ (ys ++ drop n (drop p xs))) (p + 4) key ≡ put p (codes_bytes (code tick key ∷ [])) xs
unfolding codes_bytes code_bytes tick_bytes
five_put p n tick key xs {ys} e f fits = put-more p (tick_bytes tick) key xs (four_put p n tick xs e f) refl refl refl (omega arith)

-- codes have five bytes each, and go one behind the other
codes_length : (cs : List Code) → length (codes_bytes cs) ≡ 5 * length cs
unfolding codes_bytes code_bytes tick_bytes
codes_length [] = refl
codes_length (c ∷ cs) = omega (arith, codes_length cs)

codes_append : (cs ds : List Code) → codes_bytes (cs ++ ds) ≡ codes_bytes cs ++ codes_bytes ds
unfolding codes_bytes
codes_append [] ds = refl
codes_append (c ∷ cs) ds = ap (λ (l : List ℕ). code_bytes c ++ l) (codes_append cs ds) ∙ sym (append_assoc (code_bytes c) (codes_bytes cs) (codes_bytes ds))

-- some codes are written, others are left
module _ (p : ℕ) (cs ds : List Code) (xs : List ℕ) (fits : p + 5 * length (cs ++ ds) ≤ length xs) where
  inside : p + length (codes_bytes cs) ≤ length xs
  inside = omega (arith, codes_length cs, length-append cs ds)

  written_on : {q : ℕ} {l : List ℕ} → l ≡ put p (codes_bytes cs) xs → q ≡ p + 5 * length cs → put p (codes_bytes (cs ++ ds)) xs ≡ put q (codes_bytes ds) l
  written_on {q} e f =
      let g : q ≡ p + length (codes_bytes cs) = f ∙ ap (λ (n : ℕ). p + n) (sym (codes_length cs)) in
      ap (λ (l : List ℕ). put p l xs) (codes_append cs ds) ∙ sym (put_then p (codes_bytes cs) xs inside q (codes_bytes ds) e g)

  written_size : {l : List ℕ} → l ≡ put p (codes_bytes cs) xs → length l ≡ length xs
  written_size e = ap length e ∙ length-put p (codes_bytes cs) xs inside

-- none
pub no_codes : (p : ℕ) (xs : List ℕ) → put p (codes_bytes []) xs ≡ xs
unfolding codes_bytes
no_codes p xs = put-none p xs

-- one code of several, and none
module _ (p key interval tick : ℕ) (xs : List ℕ) where
  pub every_step : (n m : ℕ) {l : List ℕ} → n ≡ m + 1 → l ≡ put p (codes_bytes (code tick key ∷ [])) xs → p + 5 * n ≤ length xs
      → (put (p + 5) (codes_bytes (every_from key interval (tick + interval) m)) l ≡ put p (codes_bytes (every_from key interval tick n)) xs) × (length l ≡ length xs)
  unfolding every_from
  every_step n m is e fits =
      let s : n ≡ suc m = omega arith in
      let rest : List Code = every_from key interval (tick + interval) m in
      let h : p + 5 * length ((code tick key ∷ []) ++ rest) ≤ length xs = omega (arith, every_length key interval (tick + interval) m) in
      (rw s (sym (written_on p (code tick key ∷ []) rest xs h e (omega arith))), written_size p (code tick key ∷ []) rest xs h e)

  pub every_none : (n : ℕ) → n ≡ 0 → put p (codes_bytes (every_from key interval tick n)) xs ≡ xs
  unfolding every_from
  every_none n e = rw e (no_codes p xs)

-- what a press sends
pub press_laid : (k : Keys) (s : Stroke) (end p : ℕ) (xs : List ℕ) → p + 5 * length (sent_by k s end) ≤ length xs → {n first : ℕ} {l l' : List ℕ}
    → n ≡ repeat_count k s.tick end → first ≡ first_repeat k s.tick → l ≡ put p (codes_bytes (code s.tick s.key ∷ [])) xs
    → l' ≡ put (p + 5) (codes_bytes (every_from s.key k.interval first n)) l → l' ≡ put p (codes_bytes (sent_by k s end)) xs
unfolding sent_by
press_laid k s end p xs fits e f one more =
    let own : List Code = every_from s.key k.interval (first_repeat k s.tick) (repeat_count k s.tick end) in
    more ∙ rw (e, f) (sym (written_on p (code s.tick s.key ∷ []) own xs fits one (omega arith)))

-- a stroke of a trace, and none
module _ (k : Keys) {ss : List Stroke} (p : ℕ) (xs : List ℕ) where
  pub all_step : {rest : List Stroke} {s : Stroke} → ss ≡ s ∷ rest → p + 5 * length (sent k ss) ≤ length xs → {q : ℕ} {l : List ℕ}
      → (l ≡ put p (codes_bytes (sent_at k s rest)) xs) × (q ≡ p + 5 * length (sent_at k s rest))
      → (put q (codes_bytes (sent k rest)) l ≡ put p (codes_bytes (sent k ss)) xs) × (length l ≡ length xs)
  unfolding sent
  all_step {rest} {s} e fits w =
      let h : p + 5 * length (sent_at k s rest ++ sent k rest) ≤ length xs = rw e at fits in
      (rw e (sym (written_on p (sent_at k s rest) (sent k rest) xs h w.0 w.1)), written_size p (sent_at k s rest) (sent k rest) xs h w.0)

  pub all_none : ss ≡ [] → put p (codes_bytes (sent k ss)) xs ≡ xs
  unfolding sent
  all_none e = rw e (no_codes p xs)
