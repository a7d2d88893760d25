-- The bytes that wait and the first of a piece in one array, as the code has them, and where their whole items end.
use mathlib.Core.Path.{◌∙◌, ◌≡◌, ap, sym}
use Prim.Native.Nat.{◌+◌, ◌-◌, ◌≤◌, ℕ}
use native.Mathlib.Omega.{arith}
use mathlib.Core.List.{List, ◌++◌}
use lib.ListN.{drop, length, length-append, length-drop, length-take, take, take-append-drop}
use lib.Seq.{drop-append-le, drop-drop, length-take-le, take_all, take_at, take-take}
use Rattle.model.specs.declared.Settings.{Settings}
use Rattle.model.specs.Line.{LineSound, held_in, limit}
use Rattle.calls.specs.Calls.{terminal}
use Rattle.calls.proofs.Wholes.{whole_end}
use Rattle.unfinished.specs.Whole.{whole_end as lineEnd}
use Rattle.calls.proofs.Joining.{end_within}
use Rattle.stream_parts.proofs.Quiet.{held_is}
use Rattle.stream_parts.proofs.Refusals.{Told, told_line, told_within}

-- a part of a list, from its front
part_of_front : (n k : ℕ) (l : List ℕ) → k ≤ n → n ≤ length l → take (n - k) (drop k l) ≡ drop k (take n l)
part_of_front n k l h f =
    let e : length (take n l) ≡ n = length-take-le n l f in
    ap (λ (x : List ℕ). take (n - k) (drop k x)) (sym (take-append-drop n l))
    ∙ ap (take (n - k)) (drop-append-le k (take n l) (drop n l) (omega (arith, e)))
    ∙ take_at (drop k (take n l)) (drop n l) (n - k) (omega (arith, length-drop k (take n l), e))

-- the first n bytes of the array are those that waited and k of the piece; their whole items end at `end`
pub record Ended (s : Settings) (m bytes : List ℕ) (k n end : ℕ) : Type 0 where
  pub line : LineSound s.waiting s.held s.count
  pub within : s.count + length m ≤ limit
  pub held : length (held_in s) ≡ s.held
  pub long : n ≤ length bytes
  pub end_is : end ≡ whole_end (held_in s ++ take k m)
  pub low : end ≤ n
  pub high : n ≤ end + 12
  pub front : take end bytes ≡ take (whole_end (held_in s ++ take k m)) (held_in s ++ take k m)
  pub rest : take (n - end) (drop end bytes) ≡ drop (whole_end (held_in s ++ take k m)) (held_in s ++ take k m)

module _ (s : Settings) (m cells layer dots shown : List ℕ) (size : length s.waiting ≡ 12) (h : Told (terminal s cells layer dots shown) m) (k : ℕ) (l : k ≤ length m)
    (bytes : List ℕ) (is : take (s.held + k) bytes ≡ held_in s ++ take k m) where
  abbrev n : ℕ
  n = s.held + k

  abbrev xs : List ℕ
  xs = held_in s ++ take k m

  length_is : length xs ≡ n
  length_is = length-append (held_in s) (take k m) ∙ (λ i. held_is s cells layer dots shown size h.line i + length-take-le k m l i)

  pub array_long : n ≤ length bytes
  array_long = omega (arith, ap length is ∙ length_is, length-take n bytes)

  pub ended : (end : ℕ) → end ≡ lineEnd (take n bytes) → Ended s m bytes k n end
  unfolding lineEnd
  ended end e =
      let f : end ≡ whole_end xs = e ∙ ap whole_end is in
      let low : end ≤ n = omega (arith, f, end_within xs, length_is) in
      record {
        line = told_line h;
        within = told_within h;
        held = held_is s cells layer dots shown size h.line;
        long = array_long;
        end_is = f;
        low = low;
        high = omega (arith, f, end_within xs, length_is);
        front = sym (take-take end n bytes low) ∙ (λ i. take (f i) (is i));
        rest = part_of_front n end bytes low array_long ∙ (λ i. drop (f i) (is i));
      }

-- the rest of a piece, from an offset on: where its whole items end
pub record Rest (m : List ℕ) (from to : ℕ) : Type 0 where
  pub low : to ≤ length m
  pub own : take (to - from) (drop from m) ≡ take (whole_end (drop from m)) (drop from m)
  pub rest : take (length m - to) (drop to m) ≡ drop (whole_end (drop from m)) (drop from m)

pub rest_ended : (m : List ℕ) (from end : ℕ) → from ≤ length m → end ≡ lineEnd (take (length m - from) (drop from m)) → Rest m from (from + end)
unfolding lineEnd
rest_ended m from end l e =
    let more : List ℕ = drop from m in
    let size : length more ≡ length m - from = length-drop from m in
    let f : end ≡ whole_end more = e ∙ ap whole_end (take_all (length m - from) more (omega arith)) in
    let low : from + end ≤ length m = omega (arith, f, size, (end_within more).0) in
    let k : (from + end) - from ≡ end = omega arith in
    record {
      low = low;
      own = ap (λ (n : ℕ). take n more) (k ∙ f);
      rest = take_all (length m - (from + end)) (drop (from + end) m) (omega (arith, length-drop (from + end) m)) ∙ sym (drop-drop end from m) ∙ ap (λ (n : ℕ). drop n more) f;
    }
