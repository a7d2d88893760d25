-- Marks and their number: each mark is a bit of it, a number is known by its bits, and how many it has says which marks are 0. Then a bit of what is joined,
-- cut off or shifted, for the code.
use mathlib.Core.Path.{◌∙◌, ◌≡◌, ap, refl, subst, sym}
use Prim.Native.Nat.{◌%◌, ◌*◌, ◌+◌, ◌-◌, ◌/◌, ◌<◌, ◌^◌, ◌≤◌, max, suc, zero, ℕ}
use native.Mathlib.Nat.{add-zero, div-div-eq-div-mul, div-eq_of_lt, lt_of_lt_of_le, mod-lt, pow-succ'}
use native.Mathlib.Omega.{arith}
use lib.Bits.{bit_or, or_shr, or_step}
use lib.Pow.{high, pow-add, pow_mono, pow_pos, shr-shr, split}
use Rattle.model.specs.Marks.{Marked, mark_in, numbered}

-- a bit above the lowest is one of the half
pub bit_half : (n j : ℕ) → n / 2 ^ suc j % 2 ≡ n / 2 / 2 ^ j % 2
bit_half n j = ap (λ (x : ℕ). n / x % 2) (pow-succ' 2 j) ∙ ap (λ (x : ℕ). x % 2) (sym (div-div-eq-div-mul n 2 (2 ^ j)))

-- marks of 0 and 1 are the bits of their number
number_bit : (m : ℕ → ℕ) (l n j : ℕ) → ((i : ℕ) → l ≤ i → m i < 2) → j < n → numbered m l n / 2 ^ j % 2 ≡ m (l + j)
unfolding numbered
number_bit m l zero j b h = absurd (omega arith)
number_bit m l (suc n) zero b h = let one = b l (omega arith) in rw (add-zero l) (omega arith)
number_bit m l (suc n) (suc j) b h =
    let x : ℕ = numbered m (suc l) n in
    let one = b l (omega arith) in
    let e : (m l + 2 * x) / 2 ≡ x = omega arith in
    let z : suc l + j ≡ l + suc j = omega arith in
    bit_half (m l + 2 * x) j ∙ ap (λ (y : ℕ). y / 2 ^ j % 2) e ∙ number_bit m (suc l) n j (λ i k. b i (omega arith)) (omega arith) ∙ ap m z

pub number_mark : (m : ℕ → ℕ) (n l : ℕ) → ((i : ℕ) → 1 ≤ i → m i < 2) → 1 ≤ l → l ≤ n → mark_in (numbered m 1 n) l ≡ m l
number_mark m n l b p q = let e : 1 + (l - 1) ≡ l = omega arith in number_bit m 1 n (l - 1) b (omega arith) ∙ ap m e

-- a number that has these marks, and no more, is theirs
known_from : (m : ℕ → ℕ) (l n x : ℕ) → x < 2 ^ n → ((j : ℕ) → j < n → x / 2 ^ j % 2 ≡ m (l + j)) → numbered m l n ≡ x
unfolding numbered
known_from m l zero x h b = omega arith
known_from m l (suc n) x h b =
    let small : x < 2 * 2 ^ n = subst (λ (y : ℕ). x < y) (pow-succ' 2 n) h in
    let whole : x % 2 ≡ x / 2 ^ 0 % 2 = omega arith in
    let first : x % 2 ≡ m l = whole ∙ b 0 (omega arith) ∙ ap m (add-zero l) in
    let rest : numbered m (suc l) n ≡ x / 2 = known_from m (suc l) n (x / 2) (omega arith)
    (λ j k. let z : l + suc j ≡ suc l + j = omega arith in sym (bit_half x j) ∙ b (suc j) (omega arith) ∙ ap m z) in
    omega (arith, first, rest)

pub number_known : (m : ℕ → ℕ) (n x : ℕ) → x < 2 ^ n → ((l : ℕ) → 1 ≤ l → l ≤ n → mark_in x l ≡ m l) → numbered m 1 n ≡ x
number_known m n x h b = known_from m 1 n x h (λ j k. let e : j ≡ 1 + j - 1 = omega arith in ap (λ (i : ℕ). x / 2 ^ i % 2) e ∙ b (1 + j) (omega arith) (omega arith))

-- marks that are 0 from a line on make a number that ends there
number_below : (m : ℕ → ℕ) (l n k : ℕ) → ((i : ℕ) → l ≤ i → m i < 2) → ((i : ℕ) → l + k ≤ i → m i ≡ 0) → numbered m l n < 2 ^ k
unfolding numbered
number_below m l zero k b z = pow_pos k
number_below m l (suc n) zero b z = omega (arith, z l (omega arith), number_below m (suc l) n zero (λ i h. b i (omega arith)) (λ i h. z i (omega arith)))
number_below m l (suc n) (suc k) b z =
    let rest : numbered m (suc l) n < 2 ^ k = number_below m (suc l) n k (λ i h. b i (omega arith)) (λ i h. z i (omega arith)) in
    let one = b l (omega arith) in
    subst (λ (y : ℕ). m l + 2 * numbered m (suc l) n < y) (sym (pow-succ' 2 k)) (omega arith)

pub number_marked : (m : ℕ → ℕ) (n lines : ℕ) → ((i : ℕ) → 1 ≤ i → m i < 2) → ((i : ℕ) → 1 ≤ i → lines ≤ i → m i ≡ 0) → Marked lines (numbered m 1 n)
number_marked m n lines b z = number_below m 1 n (lines - 1) b (λ i h. z i (omega arith) (omega arith))

-- and the other way round
pub mark_behind : (n lines l : ℕ) → Marked lines n → 1 ≤ l → lines ≤ l → mark_in n l ≡ 0
mark_behind n lines l h p q = ap (λ (x : ℕ). x % 2) (div-eq_of_lt (lt_of_lt_of_le h (pow_mono {i = lines - 1} {j = l - 1} (omega arith))))

-- a bit of two numbers joined
pub bit_or_lem : (a b j : ℕ) → bit_or a b / 2 ^ j % 2 ≡ max (a / 2 ^ j % 2) (b / 2 ^ j % 2)
bit_or_lem a b j =
    let x : ℕ = a / 2 ^ j in
    let y : ℕ = b / 2 ^ j in
    ap (λ (n : ℕ). n % 2) (or_shr a b j ∙ or_step x y) ∙ lowest (bit_or (x / 2) (y / 2)) (x % 2) (y % 2) (mod-lt x (omega arith)) (mod-lt y (omega arith))
  where
    lowest : (n c d : ℕ) → c < 2 → d < 2 → (n * 2 + max c d) % 2 ≡ max c d
    lowest n c d p q = omega arith

-- of a number shifted up, its new bits being 0
pub bit_up : (n k j : ℕ) → k ≤ j → n * 2 ^ k / 2 ^ j % 2 ≡ n / 2 ^ (j - k) % 2
bit_up n k j h =
    let e : k + (j - k) ≡ j = omega arith in
    ap (λ (i : ℕ). n * 2 ^ k / 2 ^ i % 2) (sym e) ∙ ap (λ (x : ℕ). x % 2) (sym (shr-shr (n * 2 ^ k) k (j - k)))
    ∙ ap (λ (x : ℕ). x / 2 ^ (j - k) % 2) (ap (λ (x : ℕ). x / 2 ^ k) (sym (add-zero (n * 2 ^ k))) ∙ high n k (pow_pos k))

pub bit_new : (n k j : ℕ) → j < k → n * 2 ^ k / 2 ^ j % 2 ≡ 0
bit_new n k j h =
    let i : ℕ = k - j - 1 in
    let e : k ≡ suc i + j = omega arith in
    let x : ℕ = n * 2 ^ i in
    let p : n * 2 ^ k ≡ 2 * x * 2 ^ j + 0 = ap (λ (y : ℕ). n * 2 ^ y) e ∙ ap (λ (y : ℕ). n * y) (pow-add 2 (suc i) j ∙ ap (λ (y : ℕ). y * 2 ^ j) (pow-succ' 2 i)) ∙ omega arith in
    ap (λ (y : ℕ). y / 2 ^ j % 2) p ∙ ap (λ (y : ℕ). y % 2) (high (2 * x) j (pow_pos j)) ∙ omega arith

-- of a number shifted down
pub bit_down : (n k j : ℕ) → n / 2 ^ k / 2 ^ j % 2 ≡ n / 2 ^ (k + j) % 2
bit_down n k j = ap (λ (x : ℕ). x % 2) (shr-shr n k j)

-- of its lowest k bits
pub bit_off : (n k j : ℕ) → k ≤ j → n % 2 ^ k / 2 ^ j % 2 ≡ 0
bit_off n k j h = ap (λ (x : ℕ). x % 2) (div-eq_of_lt (lt_of_lt_of_le (mod-lt n (pow_pos k)) (pow_mono {i = k} {j = j} h)))

pub bit_low : (n k j : ℕ) → j < k → n % 2 ^ k / 2 ^ j % 2 ≡ n / 2 ^ j % 2
bit_low n k j h =
    let i : ℕ = k - j - 1 in
    let e : k ≡ suc i + j = omega arith in
    let r : ℕ = n % 2 ^ k in
    let x : ℕ = n / 2 ^ k * 2 ^ i in
    let p : n ≡ n / 2 ^ k * 2 ^ k + r = sym (split n k) in
    let q : n / 2 ^ k * 2 ^ k + r ≡ 2 * x * 2 ^ j + r = ap (λ (y : ℕ). n / 2 ^ k * y + r) (ap (λ (y : ℕ). 2 ^ y) e ∙ pow-add 2 (suc i) j ∙ ap (λ (y : ℕ). y * 2 ^ j) (pow-succ' 2 i)) ∙ omega arith in
    let s : r ≡ r / 2 ^ j * 2 ^ j + r % 2 ^ j = sym (split r j) in
    let t : 2 * x * 2 ^ j + r ≡ (2 * x + r / 2 ^ j) * 2 ^ j + r % 2 ^ j = omega arith in
    sym (ap (λ (y : ℕ). y / 2 ^ j % 2) (p ∙ q ∙ t) ∙ ap (λ (y : ℕ). y % 2) (high (2 * x + r / 2 ^ j) j (mod-lt r (pow_pos j))) ∙ omega arith)
