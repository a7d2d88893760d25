-- Document 02, P7: "reading them gives that sequence back, and different sequences never give the same bytes". What is claimed of the bytes of
-- sequences, by the reader of the rules; what a writer does with them is claimed in the crate `writer`.
use Rattle.std.specs.Prelude.{◌≡◌, ℕ, ◌+◌, ◌≤◌, cond, List, ◌++◌, map, length}
use Rattle.model.specs.declared.Limits.{Limits}
use Rattle.model.specs.declared.Sequence.{Sequence as Seq}
use Rattle.model.specs.declared.Sequence.TheVariants.{Pattern}
use Rattle.model.specs.declared.Item.TheVariants.{Sequence, Refused}
use Rattle.model.specs.Bytes.{joined, list_from}
use Rattle.model.specs.Picture.{copy_size_of}
use Rattle.model.specs.Sequences.{code_of}
use Rattle.model.specs.Reading.{Read, byte_of, item_of, needed, uncut}
use Rattle.model.specs.Judging.{bad_of, judged, legal?}
use Rattle.spelling.specs.Spelling.{bytes_of, named, params_of, standing}
use Rattle.spelling.specs.Given.{given_bytes}

-- of one sequence; rows are eight
pub record ReadBack (q : Seq) (rows : List ℕ) : Type 0 where
  -- the reader ends it where its bytes end, whatever follows
  pub ends : (rest : List ℕ) → needed (bytes_of q rows ++ rest) ≡ length (bytes_of q rows)
  -- "reading them gives that sequence back", wherever they stand
  pub reads : (o : ℕ) → item_of o (bytes_of q rows) ≡ Sequence (standing o q)
  -- judged with room for a copy, it is that sequence, or it is 11 with its first bad parameter: the reader has no other refusal of it
  pub judges : (o : ℕ) (l : Limits) (room : ℕ) → copy_size_of l.mode ≤ room → judged (item_of o (bytes_of q rows)) l room ≡ cond (legal? q l) (Sequence (standing o q)) (Refused 11 (bad_of q l))
  -- the rows of a pattern lie where its rule looks for them
  pub shapes : (c at : ℕ) → q ≡ Pattern c at → (r : Read) → r.bytes ≡ bytes_of q rows → list_from (byte_of r) (r.at + 3) 8 ≡ rows
  -- by its second byte and its parameters it has the same bytes
  pub given : given_bytes (code_of q) (params_of q rows) ≡ bytes_of q rows

-- a named sequence and its rows, which are eight
pub record Sent : Type 0 where
  pub sequence : Seq
  pub rows : List ℕ
  pub eight : length rows ≡ 8

abbrev pub sent_bytes : Sent → List ℕ
sent_bytes x = bytes_of x.sequence x.rows

-- the whole of it
pub record Spelling : Type 0 where
  pub back : (q : Seq) (rows : List ℕ) → length rows ≡ 8 → ReadBack q rows
  -- "different sequences never give the same bytes": the same bytes were named by the same, and the same name gives the same bytes
  pub different : (q p : Seq) (rows rows' : List ℕ) → length rows ≡ 8 → length rows' ≡ 8 → bytes_of q rows ≡ bytes_of p rows' → named q rows ≡ named p rows'
  pub same : (q p : Seq) (rows rows' : List ℕ) → named q rows ≡ named p rows' → bytes_of q rows ≡ bytes_of p rows'
  -- "Several are written one behind another": the reader cuts them into exactly those
  pub several : (xs : List Sent) → uncut (joined (map sent_bytes xs)) ≡ map sent_bytes xs
  -- and nothing else is a whole sequence: bytes that the reader makes one of are that one's
  pub only : (o : ℕ) (bs : List ℕ) (q : Seq) → length bs ≡ needed bs → item_of o bs ≡ Sequence q → (rows : List ℕ) × ((length rows ≡ 8) × (bs ≡ bytes_of q rows))
