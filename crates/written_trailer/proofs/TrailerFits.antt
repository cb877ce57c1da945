-- The rows of a voice's trailer: each points at its tree, each number fits 32 bits, and so every voice whose texts can be read has a trailer.
use mathlib.Core.Path.{◌≡◌, refl}
use mathlib.Core.Logic.{◌⊎◌, inl, inr}
use mathlib.Core.List.{List, [], ◌∷◌, ◌++◌}
use Prim.Native.Nat.{ℕ, suc, ◌+◌, ◌*◌, ◌^◌, ◌≤◌, ◌<◌}
use native.Mathlib.Nat.{suc-mul}
use native.Mathlib.Omega.{arith}
use native.Mathlib.Decide.{dec_le}
use lib.ListN.{length, take, drop, length-append, length-drop}
use lib.Seq.{length-take-le}
use Rattle.written.specs.Bytes.{Span}
use Rattle.written.specs.Record.{Header, Says, All, file_limit}
use Rattle.written.specs.Blocks.{little_endian, Below32}
use Rattle.written.specs.Blocks as B
use Rattle.written.specs.Said.{Line, Body, Tree, TreePlace, Text, Layout}
use Rattle.written.specs.TreeText.{Parted, Word, LineParting, LineAt, Parting, BodyAt, TreeAt, TreesAt}
use Rattle.written.specs.TreeText as tree
use Rattle.written.specs.Linking.{Nth, here, there}
use Rattle.written.specs.Tables.{LinesOf}
use Rattle.written.specs.Models.{Model, model_number, Models, voice, StreamModels, data_of, TextOf}
use Rattle.written.specs.Trailer.{TrailerRows, VoiceRows, sum32, unsummed, Trailer, WritesOf}
use Rattle.written.proofs.Once.{run-le, run₁-lt}
use Rattle.written.proofs.Decide.{parting_lt, line_parting_lt, number_le, reference_le, tree_le}
use Rattle.written_models.proofs.Longer.{data_ends}

-- ---- a row points at its tree

module _ {A C : Type 0} {Part : ℕ → ℕ → Type 0} {Item : ℕ → ℕ → A → C → Type 0} where
  -- the k-th item stands somewhere
  item_at : {i j k : ℕ} {xs : List A} {ys : List C} {x : A} → Parted Part Item i j xs ys → Nth xs k x → (y : C) × (a : ℕ) × (b : ℕ) × Nth ys k y × Item a b x y
  item_at (Parted.last {i = i} {j = j} {y = y} p) here = (y, i, j, here, p)
  item_at (Parted.next {i = i} {a = a} {y = y} p q r) here = (y, i, a, here, p)
  item_at (Parted.next p q r) (there n) = let h = item_at r n in (h.0, h.1, h.2, there h.3, h.4)
  item_at (tree.last {i = i} {j = j} {y = y} p) (there {k = k} n) = elim n [ ]

star_at : {s : List ℕ} {a b : ℕ} {x : Tree} {u : TreePlace} → TreeAt s a b x u → TreeAt s u.star b x u
star_at (TreeAt.tree w b o n c e t) = TreeAt.tree w b o n c e t

trees_there : {s : List ℕ} {i k : ℕ} {ts : List Tree} {us : List TreePlace} {x : Tree} → TreesAt s i ts us → Nth ts k x → (u : TreePlace) × (j : ℕ) × Nth us k u × TreeAt s u.star j x u
trees_there (TreesAt.trees b p e) n = let h = item_at p n in (h.0, h.2, h.3, star_at h.4)

-- the k-th tree of a text stands at the k-th place, from its {*} on
pub tree_there : {s : List ℕ} {i k : ℕ} {t : Text} {l : Layout} {x : Tree} → tree.Says s i t l → Nth t.trees k x → (u : TreePlace) × (j : ℕ) × Nth l.trees k u × TreeAt s u.star j x u
tree_there (tree.Says.without ts) n = trees_there ts n
tree_there (tree.Says.with_questions qs ts) n = trees_there ts n

-- ---- sizes

word_le : {s w : List ℕ} {i j : ℕ} → Word s w i j → i + length w ≡ j
word_le Word.end = omega arith
word_le (Word.byte e w) = omega (arith, word_le w)

line_lt : {s : List ℕ} (i j : ℕ) (x : Line) (y : Span) → LineAt s i j x y → i < j
line_lt {s} i j x y (LineAt.line a b c d e f g) = omega (arith, number_le s a, run₁-lt b, run₁-lt c, run₁-lt d, reference_le s e, run₁-lt f, reference_le s g)

module _ {A C : Type 0} {Part : ℕ → ℕ → Type 0} {Item : ℕ → ℕ → A → C → Type 0}
    (item-lt : (i j : ℕ) (x : A) (y : C) → Item i j x y → i < j) (part-lt : (i j : ℕ) → Part i j → i < j) where
  -- no more items than bytes
  parted_size : {i j : ℕ} {xs : List A} {ys : List C} → Parted Part Item i j xs ys → i + length xs ≤ j
  parted_size (Parted.last {i = i} {j = j} {x = x} {y = y} p) = omega (arith, item-lt i j x y p)
  parted_size (Parted.next {i = i} {a = a} {b = b} {x = x} {y = y} p q r) = omega (arith, item-lt i a x y p, part-lt a b q, parted_size r)

lines_size : {s : List ℕ} {i j : ℕ} {ls : List Line} {ws : List Span} → Parted (LineParting s) (LineAt s) i j ls ws → i + length ls ≤ j
lines_size {s} p = parted_size line_lt (λ i j. line_parting_lt s) p

body_lines : {s : List ℕ} {i j n : ℕ} {t : Body} {ws : List Span} → BodyAt s i j t ws → LinesOf t n → i + n ≤ j
body_lines {s} (BodyAt.one r) (LinesOf.single a) = omega (arith, reference_le s r)
body_lines (BodyAt.none a b c) (LinesOf.single d) = omega (arith, word_le a, run-le b, word_le c)
body_lines (BodyAt.none a b c) (LinesOf.lines d) = omega (arith, word_le a, run-le b, word_le c)
body_lines (BodyAt.lines a b p c d) (LinesOf.single e) = omega (arith, word_le a, run-le b, lines_size p, run-le c, word_le d)
body_lines (BodyAt.lines a b p c d) (LinesOf.lines e) = omega (arith, word_le a, run-le b, lines_size p, run-le c, word_le d)

-- a tree's {*} and its lines
pub tree_size : {s : List ℕ} {i j n : ℕ} {x : Tree} {u : TreePlace} → TreeAt s i j x u → LinesOf x.body n → (u.star < j) × (n < j)
tree_size {s} (TreeAt.tree w b o n c e t) l =
    let z = body_lines t l in
    let q = word_le w in
    let f = run-le b in
    let g = word_le o in
    let h = number_le s n in
    let k = word_le c in
    let m = run-le e in
    (omega (arith, q, f, g, h, k, m, z), omega (arith, q, f, g, h, k, m, z))

module _ {A C : Type 0} {Part : ℕ → ℕ → Type 0} {Item : ℕ → ℕ → A → C → Type 0}
    (item-le : (i j : ℕ) (x : A) (y : C) → Item i j x y → i ≤ j) (part-lt : (i j : ℕ) → Part i j → i < j) where
  parted_most : {i j : ℕ} {xs : List A} {ys : List C} → Parted Part Item i j xs ys → i + length xs ≤ suc j
  parted_most (Parted.last {i = i} {j = j} {x = x} {y = y} p) = omega (arith, item-le i j x y p)
  parted_most (Parted.next {i = i} {a = a} {b = b} {x = x} {y = y} p q r) = omega (arith, item-le i a x y p, part-lt a b q, parted_most r)

pub trees_most : {s : List ℕ} {i j : ℕ} {ts : List Tree} {us : List TreePlace} → Parted (Parting s) (TreeAt s) i j ts us → i + length ts ≤ suc j
trees_most {s} p = parted_most (λ i j x y. tree_le s) (λ i j. parting_lt s) p

pub trees_some : {s : List ℕ} {i j : ℕ} {ts : List Tree} {us : List TreePlace} → Parted (Parting s) (TreeAt s) i j ts us → 0 < length ts
trees_some (Parted.last p) = omega arith
trees_some (Parted.next p q r) = omega arith

-- ---- rows of one model

pub rows_length : {m : ℕ} {ts : List Tree} {us : List TreePlace} {ns : List ℕ} → TrailerRows m ts us ns → length ns ≡ 3 * length ts
rows_length TrailerRows.none = refl
rows_length (TrailerRows.more l r) = omega (arith, rows_length r)

parted_below : {s : List ℕ} {m i j : ℕ} {ts : List Tree} {us : List TreePlace} {ns : List ℕ} → m < 2 ^ 32 → j < 2 ^ 32 → Parted (Parting s) (TreeAt s) i j ts us → TrailerRows m ts us ns → Below32 ns
parted_below a b (Parted.last p) (TrailerRows.more {u = u} {n = n} l TrailerRows.none) =
    let z = tree_size p l in
    let x : u.star < 2 ^ 32 = omega (arith, z.0) in
    let y : n < 2 ^ 32 = omega (arith, z.1) in
    B.Below32.next a (B.Below32.next x (B.Below32.next y B.Below32.end))
parted_below {s} {j = j} a b (Parted.next {a = c} p q r) (TrailerRows.more {u = u} {n = n} l t) =
    let z = tree_size p l in
    let f : c < 2 ^ 32 = omega (arith, parting_lt s q, trees_most r, trees_some r) in
    let x : u.star < 2 ^ 32 = omega (arith, z.0) in
    let y : n < 2 ^ 32 = omega (arith, z.1) in
    B.Below32.next a (B.Below32.next x (B.Below32.next y (parted_below a b r t)))

record Fits (s : List ℕ) (ts : List Tree) (ns : List ℕ) : Type 0 where
  pub below : Below32 ns
  pub few : length ts ≤ suc (length s)

trees_fit : {s : List ℕ} {m i : ℕ} {ts : List Tree} {us : List TreePlace} {ns : List ℕ} → m < 2 ^ 32 → length s < 2 ^ 32 → TreesAt s i ts us → TrailerRows m ts us ns → Fits s ts ns
trees_fit {s} a b (TreesAt.trees {b = e} w p v) t =
    let l = run-le v in
    let f : e < 2 ^ 32 = omega arith in
    record { below = parted_below a f p t; few = omega (arith, trees_most p) }

text_fits : {s : List ℕ} {m i : ℕ} {t : Text} {l : Layout} {ns : List ℕ} → m < 2 ^ 32 → length s < 2 ^ 32 → tree.Says s i t l → TrailerRows m t.trees l.trees ns → Fits s t.trees ns
text_fits a b (tree.Says.without ts) r = trees_fit a b ts r
text_fits a b (tree.Says.with_questions qs ts) r = trees_fit a b ts r

-- ---- the models of a voice: at most 17, by numbers up to 16

streams_few : {s : List ℕ} {h : Header} {i : ℕ} {xs : List Span} {ms : List Model} → StreamModels s h i xs ms → i + length xs ≤ 8 → All (λ m. model_number m ≤ 16) ms × (length ms ≤ 2 * length xs)
streams_few StreamModels.end l = (All.end, omega arith)
streams_few (StreamModels.both {i = i} n u m) l =
    let r = streams_few m (omega arith) in
    let a : 2 * i + 1 ≤ 16 = omega arith in
    let b : 2 * i + 2 ≤ 16 = omega arith in
    (All.next a (All.next b r.0), omega (arith, r.1))
streams_few (StreamModels.alone {i = i} n u m) l = let r = streams_few m (omega arith) in let a : 2 * i + 1 ≤ 16 = omega arith in (All.next a r.0, omega (arith, r.1))
streams_few (StreamModels.unnamed {i = i} n m) l = let r = streams_few m (omega arith) in let a : 2 * i + 1 ≤ 16 = omega arith in (All.next a r.0, omega (arith, r.1))

pub models_few : {s : List ℕ} {h : Header} {ms : List Model} → Says s h → Models s h ms → All (λ m. model_number m ≤ 16) ms × (length ms ≤ 17)
models_few {s} {h} o (voice m) =
    let l : 0 + length h.global.stream_type ≤ 8 = omega (arith, o.global_fits.names) in
    let r = streams_few m l in
    let a : 0 ≤ 16 = omega arith in
    (All.next a r.0, omega (arith, r.1, o.global_fits.names))

-- ---- rows of a voice

below_both : {a b : List ℕ} → Below32 a → Below32 b → Below32 (a ++ b)
below_both B.Below32.end k = k
below_both (B.Below32.next l h) k = B.Below32.next l (below_both h k)

-- the bytes that a text is read in are no more than a file may have
pub text_short : {s : List ℕ} {h : Header} {m : Model} {t : Text} {l : Layout} → Says s h → (x : TextOf s h m t l) → length (take (x.tree.to + 1) (data_of s h)) ≤ file_limit
text_short {s} {h} o x =
    let e = data_ends o in
    let a = length-drop h.datum.start s in
    let b : length (data_of s h) ≡ h.datum.len = length-take-le h.datum.len (drop h.datum.start s) (omega (arith, a, e)) in
    let c : length (take (x.tree.to + 1) (data_of s h)) ≡ x.tree.to + 1 = length-take-le (x.tree.to + 1) (data_of s h) x.inside.ends in
    omega (arith, b, c, e, x.inside.ends, o.fits)

record VoiceFits (ms : List Model) (rows : List ℕ) : Type 0 where
  pub below : Below32 rows
  pub count : ℕ
  pub threes : length rows ≡ 3 * count
  pub few : count ≤ length ms * suc file_limit

voice_fits : {s : List ℕ} {h : Header} {ms : List Model} {rows : List ℕ} → Says s h → All (λ m. model_number m ≤ 16) ms → VoiceRows s h ms rows → VoiceFits ms rows
voice_fits o a VoiceRows.end = record { below = B.Below32.end; count = 0; threes = refl; few = omega arith }
voice_fits {s} {h} o (All.next k a) (VoiceRows.next {m = m} {ms = ms} {t = t} {ns = ns} {more = more} x r v) =
    let z = text_short o x in
    let c : model_number m < 2 ^ 32 = omega (arith, k) in
    let d : length (take (x.tree.to + 1) (data_of s h)) < 2 ^ 32 = omega arith in
    let f = text_fits c d x.says r in
    let g = voice_fits o a v in
    let e = rows_length r in
    let j = length-append ns more in
    let i : length (m ∷ ms) * suc file_limit ≡ length ms * suc file_limit + suc file_limit = suc-mul (length ms) (suc file_limit) in
    record {
      below = below_both f.below g.below;
      count = length t.trees + g.count;
      threes = omega (arith, e, j, g.threes);
      few = omega (arith, f.few, g.few, i, z);
    }

-- every voice whose texts can be read has a trailer
pub trailer_exists : {file rows : List ℕ} {h : Header} {ms : List Model} → Says file h → Models file h ms → VoiceRows file h ms rows → (t : List ℕ) × Trailer file rows t
trailer_exists {file} {rows} {h} {ms} o m v =
    let few = models_few o m in
    let f = voice_fits o few.0 v in
    let c : f.count < 2 ^ 32 = omega (arith, f.few, few.1) in
    let l : length file < 2 ^ 32 = omega (arith, o.fits) in
    let u : List ℕ = unsummed file rows f.count in (
      u ++ little_endian (sum32 (file ++ u) ∷ []),
      record { count = f.count; threes = f.threes; below = below_both f.below (B.Below32.next c (B.Below32.next l B.Below32.end)); whole = refl },
    )

-- and then writing answers 0 or 26
pub writes_or : {file rows : List ℕ} {h : Header} {ms : List Model} (room : ℕ) → Says file h → Models file h ms → VoiceRows file h ms rows
    → (t : List ℕ) × (WritesOf file h ms room 0 0 (length t) t ⊎ WritesOf file h ms room 26 0 (length t) [])
writes_or {file} {rows} {h} {ms} room o m v = let x = trailer_exists o m v in (x.0, go x.0 x.1 (dec_le (length x.0) room) (dec_le (length file + length x.0) file_limit))
  where
    go : (t : List ℕ) → Trailer file rows t → Dec (length t ≤ room) → Dec (length file + length t ≤ file_limit) → WritesOf file h ms room 0 0 (length t) t ⊎ WritesOf file h ms room 26 0 (length t) []
    go t x (no n) q = inr (WritesOf.no_room v x (inl (omega arith)))
    go t x (yes y) (no n) = inr (WritesOf.no_room v x (inr (omega arith)))
    go t x (yes y) (yes z) = inl (WritesOf.written v x y z)
