-- P8 and P6: of two packs that are equal but where both have a printed character's value the records' heads are equal, so that their bodies are as long, and
-- each two bodies are read in step. So their messages, one after the other, keep what two states share.
use mathlib.Core.Path.{◌∙◌, ◌≡◌, ap, refl, subst, sym}
use Prim.Native.Nat.{◌*◌, ◌+◌, ◌-◌, ◌<◌, ◌≤◌, suc, zero, ℕ}
use native.Mathlib.Omega.{arith}
use mathlib.Core.Bool.{Bool, ◌&&◌, cond, false, true}
use mathlib.Core.List.{List, [], ◌∷◌, map}
use lib.ListN.{get_or-eq_default, drop, get_or, length, length-append, length-drop}
use lib.Seq.{get_or-drop, get_or-take}
use lib.Dec.{eqb, leb, ltb}
use borrow.Author.Tests.{le-leb, le-ltb, lt-leb, lt-ltb, ltb-false, ltb-true}
use Rattle.model.specs.Bytes.{joined}
use Rattle.model.specs.State.{State}
use Rattle.model.specs.Reading.{Read, uncut}
use Rattle.model.specs.Records.{Record, body_in, length_in, record_in, records_after, uncut?}
use Rattle.calls.specs.Packs.{bodies_of, items_in, reads_each, record_from, some?}
use Rattle.model.specs.Items.{apply_all, blank_answer, counted_all, events_of}
use Rattle.model.specs.Hidden.{Hidden}
use Rattle.secrecy.specs.Secrecy.{printed_in_pack, revealed}
use Rattle.model.proofs.Tests.{cond_at}
use Rattle.model.proofs.Events.{events_append}
use Rattle.records.proofs.Laws.{body_length, records_next, two_at, uncut_fits, uncut_next}
use Rattle.secrecy.proofs.PackValues.{value_in}
use Rattle.secrecy.proofs.Reading.{Twins, printed_value, value_at, whole-step}
use Rattle.secrecy.proofs.Items.{Along, along, along_append, along_counts, along_end, revealed_append}

-- in a head, in a body, behind it
module _ (m : List ℕ) (ms : List (List ℕ)) (i : ℕ) where
  head_value : i < 4 → value_in (m ∷ ms) i ≡ false
  unfolding value_in
  head_value h =
      cond_at (λ (b : Bool). b ≡ false) (ltb i (4 + length m)) _ _ (λ e. ap (λ (b : Bool). b && value_at (uncut m) 0 (i - 4)) (lt-leb 4 i h))
      (λ e. absurd (omega (arith, h, ltb-false i (4 + length m) e)))

  body_value : i < length m → value_in (m ∷ ms) (4 + i) ≡ value_at (uncut m) 0 i
  unfolding value_in
  body_value h =
      let p : 4 + i - 4 ≡ i = omega arith in
      ap (λ (b : Bool). cond b (leb 4 (4 + i) && value_at (uncut m) 0 (4 + i - 4)) (value_in ms (4 + i - (4 + length m)))) (lt-ltb (4 + i) (4 + length m) (omega (arith, h)))
      ∙ (λ j. le-leb 4 (4 + i) (omega arith) j && value_at (uncut m) 0 (p j))

  rest_value : value_in (m ∷ ms) (4 + length m + i) ≡ value_in ms i
  unfolding value_in
  rest_value =
      let o : ℕ = 4 + length m + i in
      let p : o - (4 + length m) ≡ i = omega arith in
      ap (λ (b : Bool). cond b (leb 4 o && value_at (uncut m) 0 (o - 4)) (value_in ms (o - (4 + length m)))) (le-ltb o (4 + length m) (omega arith)) ∙ ap (value_in ms) p

-- the bodies of two packs: as long, and read in step
pub data TwinBodies : List (List ℕ) → List (List ℕ) → Type 0 where
  no_bodies : TwinBodies [] []
  more_bodies : {m n : List ℕ} {ms ns : List (List ℕ)} → length m ≡ length n → Twins (uncut m) (uncut n) → TwinBodies ms ns → TwinBodies (m ∷ ms) (n ∷ ns)

pub twins_long : {ms ns : List (List ℕ)} → TwinBodies ms ns → length (joined ms) ≡ length (joined ns)
unfolding joined
twins_long no_bodies = refl
twins_long (more_bodies {m = m} {n = n} {ms = ms} {ns = ns} l t ts) = omega (arith, l, length-append m (joined ms), length-append n (joined ns), twins_long ts)

pub twins_some : {ms ns : List (List ℕ)} → TwinBodies ms ns → some? ms ≡ some? ns
twins_some no_bodies = refl
twins_some (more_bodies l t ts) = refl

-- equal but where both have a character's value
abbrev pub AgreePacks : List ℕ → List ℕ → Type 0
AgreePacks p₁ p₂ = (i : ℕ) → (value_in (bodies_of p₁) i && value_in (bodies_of p₂) i) ≡ false → get_or p₁ i 0 ≡ get_or p₂ i 0

-- what is behind the first record
abbrev rest_of : List ℕ → List ℕ
rest_of p = drop (length_in p + 4) p

bodies_next : (p : List ℕ) → 1 ≤ length p → bodies_of p ≡ body_in p ∷ bodies_of (rest_of p)
unfolding bodies_of record_in
bodies_next p h = ap (map (λ (r : Record). r.body)) (records_next p h)

length_is : (p : List ℕ) → length_in p ≡ get_or p 0 0 + 256 * get_or p 1 0
unfolding length_in
length_is p = two_at p 0

in_body : (p : List ℕ) (i : ℕ) → i < length_in p → get_or (body_in p) i 0 ≡ get_or p (4 + i) 0
unfolding body_in
in_body p i h = get_or-take (length_in p) (drop 4 p) i 0 h ∙ get_or-drop 4 p i 0

module _ (p₁ p₂ : List ℕ) (some : 1 ≤ length p₁) (fits : length_in p₁ + 4 ≤ length p₁) (long : length p₁ ≡ length p₂) (a : AgreePacks p₁ p₂) where
  some₂ : 1 ≤ length p₂
  some₂ = omega (arith, some, long)

  -- the same by each record and what is behind it
  agree : (i : ℕ) → (value_in (body_in p₁ ∷ bodies_of (rest_of p₁)) i && value_in (body_in p₂ ∷ bodies_of (rest_of p₂)) i) ≡ false → get_or p₁ i 0 ≡ get_or p₂ i 0
  agree i e = a i ((λ j. value_in (bodies_next p₁ some j) i && value_in (bodies_next p₂ some₂ j) i) ∙ e)

  heads : (i : ℕ) → i < 4 → get_or p₁ i 0 ≡ get_or p₂ i 0
  heads i h = agree i (ap (λ (b : Bool). b && value_in (body_in p₂ ∷ bodies_of (rest_of p₂)) i) (head_value (body_in p₁) (bodies_of (rest_of p₁)) i h))

  same_length : length_in p₁ ≡ length_in p₂
  same_length = length_is p₁ ∙ (λ j. heads 0 (omega arith) j + 256 * heads 1 (omega arith) j) ∙ sym (length_is p₂)

  long₁ : length (body_in p₁) ≡ length_in p₁
  long₁ = body_length p₁ fits

  long₂ : length (body_in p₂) ≡ length_in p₂
  long₂ = body_length p₂ (omega (arith, fits, long, same_length))

  body_twins : Twins (uncut (body_in p₁)) (uncut (body_in p₂))
  body_twins = whole-step (body_in p₁) (body_in p₂) (long₁ ∙ same_length ∙ sym long₂) (λ i e. go i e (ltb i (length_in p₁)) refl)
    where
      go : (i : ℕ) → (value_at (uncut (body_in p₁)) 0 i && value_at (uncut (body_in p₂)) 0 i) ≡ false → (b : Bool) → ltb i (length_in p₁) ≡ b → get_or (body_in p₁) i 0 ≡ get_or (body_in p₂) i 0
      go i e true t =
          let h : i < length_in p₁ = ltb-true i (length_in p₁) t in
          let h₂ : i < length_in p₂ = omega (arith, h, same_length) in
          in_body p₁ i h
          ∙ agree (4 + i) ((λ j. body_value (body_in p₁) (bodies_of (rest_of p₁)) i (omega (arith, h, long₁)) j && body_value (body_in p₂) (bodies_of (rest_of p₂)) i (omega (arith, h₂, long₂)) j) ∙ e)
          ∙ sym (in_body p₂ i h₂)
      go i e false t =
          let h : length_in p₁ ≤ i = ltb-false i (length_in p₁) t in
          get_or-eq_default (body_in p₁) 0 (omega (arith, h, long₁)) ∙ sym (get_or-eq_default (body_in p₂) 0 (omega (arith, h, long₂, same_length)))

  -- behind the record
  rest_long : length (rest_of p₁) ≡ length (rest_of p₂)
  rest_long = omega (arith, length-drop (length_in p₁ + 4) p₁, length-drop (length_in p₂ + 4) p₂, long, same_length)

  rest_less : (n : ℕ) → length p₁ ≤ suc n → length (rest_of p₁) ≤ n
  rest_less n h = omega (arith, h, length-drop (length_in p₁ + 4) p₁, some)

  rest_agrees : AgreePacks (rest_of p₁) (rest_of p₂)
  rest_agrees i e =
      let o : ℕ = length_in p₁ + 4 + i in
      let o₁ : o ≡ 4 + length (body_in p₁) + i = omega (arith, long₁) in
      let o₂ : o ≡ 4 + length (body_in p₂) + i = omega (arith, long₂, same_length) in
      let o₃ : length_in p₂ + 4 + i ≡ o = omega (arith, same_length) in
      get_or-drop (length_in p₁ + 4) p₁ i 0
      ∙ agree o ((λ j. (ap (value_in (body_in p₁ ∷ bodies_of (rest_of p₁))) o₁ ∙ rest_value (body_in p₁) (bodies_of (rest_of p₁)) i) j && (ap (value_in (body_in p₂ ∷ bodies_of (rest_of p₂))) o₂ ∙ rest_value (body_in p₂) (bodies_of (rest_of p₂)) i) j) ∙ e)
      ∙ sym (get_or-drop (length_in p₂ + 4) p₂ i 0 ∙ ap (λ (k : ℕ). get_or p₂ k 0) o₃)

  both_records : TwinBodies (bodies_of (rest_of p₁)) (bodies_of (rest_of p₂)) → TwinBodies (bodies_of p₁) (bodies_of p₂)
  both_records rest =
      subst (λ (xs : List (List ℕ)). TwinBodies xs (bodies_of p₂)) (sym (bodies_next p₁ some))
      (subst (TwinBodies _) (sym (bodies_next p₂ some₂)) (more_bodies (long₁ ∙ same_length ∙ sym long₂) body_twins rest))

-- record after record: of packs of at most n bytes
abbrev Walked : ℕ → Type 0
Walked n = (p₁ p₂ : List ℕ) → length p₁ ≤ n → uncut? p₁ ≡ true → length p₁ ≡ length p₂ → AgreePacks p₁ p₂ → TwinBodies (bodies_of p₁) (bodies_of p₂)

no_bytes : (p₁ p₂ : List ℕ) → length p₁ ≤ 0 → length p₁ ≡ length p₂ → TwinBodies (bodies_of p₁) (bodies_of p₂)
unfolding bodies_of records_after
no_bytes [] [] h l = no_bodies
no_bytes [] (d ∷ ds) h l = absurd (omega (arith, l))
no_bytes (b ∷ bs) p₂ h l = absurd (omega (arith, h))

walk_on : (n : ℕ) → Walked n → Walked (suc n)
walk_on n walk [] p₂ h u l a = no_bytes [] p₂ (omega arith) l
walk_on n walk (b ∷ bs) p₂ h u l a =
    let p : List ℕ = b ∷ bs in
    let some : 1 ≤ length p = omega arith in
    let fits : length_in p + 4 ≤ length p = uncut_fits p some u in
    both_records p p₂ some fits l a
    (walk (rest_of p) (rest_of p₂) (rest_less p p₂ some fits l a n h) (sym (uncut_next p some fits) ∙ u) (rest_long p p₂ some fits l a) (rest_agrees p p₂ some fits l a))

pub twin_bodies : (n : ℕ) → Walked n
twin_bodies zero p₁ p₂ h u l a = no_bytes p₁ p₂ h l
twin_bodies (suc n) p₁ p₂ h u l a = walk_on n (twin_bodies n) p₁ p₂ h u l a

-- one message of each: its items, and what is left of the room
module _ (m₁ m₂ : List ℕ) (l : length m₁ ≡ length m₂) (t : Twins (uncut m₁) (uncut m₂)) (a b : State) (r s : ℕ) (e : r ≡ s) (h : Hidden a b) (v : revealed (events_of (items_in m₁ a r)) ≡ false) where
  one : Along (items_in m₁ a r) (items_in m₂ b s) a b
  one = along t 0 0 a b r s refl e h v

  one_answer : counted_all (items_in m₁ a r) (blank_answer 0 (length m₁)) ≡ counted_all (items_in m₂ b s) (blank_answer 0 (length m₂))
  one_answer = along_counts (items_in m₁ a r) (items_in m₂ b s) a b (blank_answer 0 (length m₁)) one ∙ ap (λ (n : ℕ). counted_all (items_in m₂ b s) (blank_answer 0 n)) l

  one_room : r - (counted_all (items_in m₁ a r) (blank_answer 0 (length m₁))).printed ≡ s - (counted_all (items_in m₂ b s) (blank_answer 0 (length m₂))).printed
  one_room = λ j. e j - (one_answer j).printed

  one_left : Hidden (apply_all (events_of (items_in m₁ a r)) a) (apply_all (events_of (items_in m₂ b s)) b)
  one_left = along_end (items_in m₁ a r) (items_in m₂ b s) a b one

-- the messages of two packs, one after the other, each in the room left over
pub along_each : {ms ns : List (List ℕ)} → TwinBodies ms ns → (a b : State) (r s : ℕ) → r ≡ s → Hidden a b → revealed (events_of (reads_each ms a r)) ≡ false
    → Along (reads_each ms a r) (reads_each ns b s) a b
unfolding reads_each
along_each no_bodies a b r s e h v = h
along_each (more_bodies {m = m} {n = n} {ms = ms} {ns = ns} l t ts) a b r s e h v =
    let rs : List Read = items_in m a r in
    let ss : List Read = items_in n b s in
    let rest : List Read = reads_each ms (apply_all (events_of rs) a) (r - (counted_all rs (blank_answer 0 (length m))).printed) in
    let u = revealed_append (events_of rs) (events_of rest) (ap revealed (sym (events_append rs rest)) ∙ v) in
    along_append rs ss rest _ a b (one m n l t a b r s e h u.0)
    (along_each ts (apply_all (events_of rs) a) (apply_all (events_of ss) b) _ _ (one_room m n l t a b r s e h u.0) (one_left m n l t a b r s e h u.0) u.1)

-- the first refusal is in the same record
pub record_each : {ms ns : List (List ℕ)} → TwinBodies ms ns → (k : ℕ) (a b : State) (r s : ℕ) → r ≡ s → Hidden a b → revealed (events_of (reads_each ms a r)) ≡ false
    → record_from k ms a r ≡ record_from k ns b s
unfolding reads_each record_from
record_each no_bodies k a b r s e h v = refl
record_each (more_bodies {m = m} {n = n} {ms = ms} {ns = ns} l t ts) k a b r s e h v =
    let rs : List Read = items_in m a r in
    let ss : List Read = items_in n b s in
    let rest : List Read = reads_each ms (apply_all (events_of rs) a) (r - (counted_all rs (blank_answer 0 (length m))).printed) in
    let u = revealed_append (events_of rs) (events_of rest) (ap revealed (sym (events_append rs rest)) ∙ v) in
    λ j. cond (eqb (one_answer m n l t a b r s e h u.0 j).refused 0)
    (record_each ts (k + 1) (apply_all (events_of rs) a) (apply_all (events_of ss) b) _ _ (one_room m n l t a b r s e h u.0) (one_left m n l t a b r s e h u.0) u.1 j) k
