-- A trailer's rows begin behind the header: before every byte of a row, or at it, stands a 0 at most three bytes away, and the header ends in "[DATA]" and a newline.
use mathlib.Core.Path.{◌≡◌, refl, sym, ap, ◌∙◌, subst}
use mathlib.Core.Logic.{◌⊎◌, inl, inr}
use mathlib.Core.List.{List, [], ◌∷◌, ◌++◌, append_assoc}
use Prim.Native.Nat.{ℕ, zero, suc, ◌+◌, ◌-◌, ◌/◌, ◌%◌, ◌≤◌, ◌<◌}
use native.Mathlib.Omega.{arith}
use native.Mathlib.Decide.{dec_le}
use lib.ListN.{length, get_or, length-append, get_or-append}
use lib.Seq.{get_or-append-add}
use Rattle.written.specs.Bytes.{bytes, Span}
use Rattle.written.specs.Sections.{newlines, Part}
use Rattle.written.specs.Record.{Header, Says, All, file_limit}
use Rattle.written.specs.Blocks.{little_endian}
use Rattle.written.specs.Said.{Tree, TreePlace, Text, Layout}
use Rattle.written.specs.TreeText.{Parted, Parting, TreeAt, TreesAt}
use Rattle.written.specs.TreeText as tree
use Rattle.written.specs.Models.{Model, duration, model_number, Models, voice}
use Rattle.written.specs.Trailer.{TrailerRows, VoiceRows, sum32, unsummed, Trailed, shorter}
use Rattle.written_trailer.proofs.Trailing.{little-append, little-length, last_three}
use Rattle.written_trailer.proofs.TrailerFits.{models_few, text_short, tree_size, trees_most, trees_some}
use Rattle.written_models.proofs.Longer.{data_ends, shorter_opens}
use Rattle.written.proofs.Once.{run-le}
use Rattle.written.proofs.Decide.{parting_lt}

-- ---- rows of twelve bytes with 0 in their places 1, 2, 3, 7 and 11

data Shape : List ℕ → Type 0 where
  end : Shape []
  row : {a b c d e f g : ℕ} {r : List ℕ} → Shape r → Shape (a ∷ 0 ∷ 0 ∷ 0 ∷ b ∷ c ∷ d ∷ 0 ∷ e ∷ f ∷ g ∷ 0 ∷ r)

abbrev Near : List ℕ → ℕ → Type 0
Near r o = (j : ℕ) × (j ≤ 3) × (j ≤ o) × (get_or r (o - j) 0 ≡ 0)

-- at every place but the first a 0 stands at most three before it
near : {r : List ℕ} → Shape r → (o : ℕ) → o < length r → Near r o ⊎ (o ≡ 0)
near Shape.end o l = absurd (omega arith)
near (Shape.row s) zero l = inr refl
near (Shape.row s) (suc zero) l = inl (0, omega arith, omega arith, refl)
near (Shape.row s) (suc (suc zero)) l = inl (0, omega arith, omega arith, refl)
near (Shape.row s) (suc (suc (suc zero))) l = inl (0, omega arith, omega arith, refl)
near (Shape.row s) (suc (suc (suc (suc zero)))) l = inl (1, omega arith, omega arith, refl)
near (Shape.row s) (suc (suc (suc (suc (suc zero))))) l = inl (2, omega arith, omega arith, refl)
near (Shape.row s) (suc (suc (suc (suc (suc (suc zero)))))) l = inl (3, omega arith, omega arith, refl)
near (Shape.row s) (suc (suc (suc (suc (suc (suc (suc zero))))))) l = inl (0, omega arith, omega arith, refl)
near (Shape.row s) (suc (suc (suc (suc (suc (suc (suc (suc zero)))))))) l = inl (1, omega arith, omega arith, refl)
near (Shape.row s) (suc (suc (suc (suc (suc (suc (suc (suc (suc zero))))))))) l = inl (2, omega arith, omega arith, refl)
near (Shape.row s) (suc (suc (suc (suc (suc (suc (suc (suc (suc (suc zero)))))))))) l = inl (3, omega arith, omega arith, refl)
near (Shape.row s) (suc (suc (suc (suc (suc (suc (suc (suc (suc (suc (suc zero))))))))))) l = inl (0, omega arith, omega arith, refl)
near (Shape.row {a} {b} {c} {d} {e} {f} {g} {r} s) (suc (suc (suc (suc (suc (suc (suc (suc (suc (suc (suc (suc o)))))))))))) l = go (near s o (omega arith))
  where
    whole : List ℕ
    whole = a ∷ 0 ∷ 0 ∷ 0 ∷ b ∷ c ∷ d ∷ 0 ∷ e ∷ f ∷ g ∷ 0 ∷ r

    at : ℕ
    at = suc (suc (suc (suc (suc (suc (suc (suc (suc (suc (suc (suc o)))))))))))

    go : Near r o ⊎ (o ≡ 0) → Near whole at ⊎ (at ≡ 0)
    go (inl (j, p, q, z)) =
        let k : at - j ≡ suc (suc (suc (suc (suc (suc (suc (suc (suc (suc (suc (suc (o - j)))))))))))) = omega arith in
        inl (j, p, omega arith, ap (λ (i : ℕ). get_or whole i 0) k ∙ z)
    go (inr q) =
        let k : at - 1 ≡ 11 = omega arith in
        inl (1, omega arith, omega arith, ap (λ (i : ℕ). get_or whole i 0) k)

three : (m s n : ℕ) (ns : List ℕ) → m < 0x100 → s < 0x100_0000 → n < 0x100_0000 → Shape (little_endian ns) → Shape (little_endian (m ∷ s ∷ n ∷ ns))
unfolding little_endian
three m s n ns a b c h =
    let p : 0 ≡ m / 0x100 % 0x100 = omega arith in
    let q : 0 ≡ m / 0x1_0000 % 0x100 = omega arith in
    let r : 0 ≡ m / 0x100_0000 % 0x100 = omega arith in
    let u : 0 ≡ s / 0x100_0000 % 0x100 = omega arith in
    let v : 0 ≡ n / 0x100_0000 % 0x100 = omega arith in
    let e : ((m % 0x100) ∷ 0 ∷ 0 ∷ 0 ∷ (s % 0x100) ∷ (s / 0x100 % 0x100) ∷ (s / 0x1_0000 % 0x100) ∷ 0 ∷ (n % 0x100) ∷ (n / 0x100 % 0x100) ∷ (n / 0x1_0000 % 0x100) ∷ 0 ∷ little_endian ns) ≡ little_endian (m ∷ s ∷ n ∷ ns) =
    λ i. (m % 0x100) ∷ p i ∷ q i ∷ r i ∷ (s % 0x100) ∷ (s / 0x100 % 0x100) ∷ (s / 0x1_0000 % 0x100) ∷ u i ∷ (n % 0x100) ∷ (n / 0x100 % 0x100) ∷ (n / 0x1_0000 % 0x100) ∷ v i ∷ little_endian ns in
    subst Shape e (Shape.row h)

parted_shape : {s : List ℕ} {m i j : ℕ} {ts : List Tree} {us : List TreePlace} {ns : List ℕ} → m < 0x100 → j ≤ file_limit → Parted (Parting s) (TreeAt s) i j ts us → TrailerRows m ts us ns → Shape (little_endian ns)
unfolding little_endian
parted_shape {m = m} a b (Parted.last p) (TrailerRows.more {u = u} {n = n} l TrailerRows.none) =
    let z = tree_size p l in
    let x : u.star < 0x100_0000 = omega (arith, z.0) in
    let y : n < 0x100_0000 = omega (arith, z.1) in
    three m u.star n [] a x y Shape.end
parted_shape {s} {m = m} a b (Parted.next {a = c} p q r) (TrailerRows.more {u = u} {n = n} {ns = ns} l t) =
    let z = tree_size p l in
    let f : c ≤ file_limit = omega (arith, parting_lt s q, trees_most r, trees_some r) in
    let x : u.star < 0x100_0000 = omega (arith, z.0) in
    let y : n < 0x100_0000 = omega (arith, z.1) in
    three m u.star n ns a x y (parted_shape a b r t)

shape_append : {a b : List ℕ} → Shape a → Shape b → Shape (a ++ b)
shape_append Shape.end k = k
shape_append (Shape.row h) k = Shape.row (shape_append h k)

trees_shape : {s : List ℕ} {m i : ℕ} {ts : List Tree} {us : List TreePlace} {ns : List ℕ} → m < 0x100 → length s ≤ file_limit → TreesAt s i ts us → TrailerRows m ts us ns → Shape (little_endian ns)
trees_shape a b (TreesAt.trees {b = e} w p v) t = let l = run-le v in let f : e ≤ file_limit = omega arith in parted_shape a f p t

text_shape : {s : List ℕ} {m i : ℕ} {t : Text} {l : Layout} {ns : List ℕ} → m < 0x100 → length s ≤ file_limit → tree.Says s i t l → TrailerRows m t.trees l.trees ns → Shape (little_endian ns)
text_shape a b (tree.Says.without ts) r = trees_shape a b ts r
text_shape a b (tree.Says.with_questions qs ts) r = trees_shape a b ts r

voice_shape : {s : List ℕ} {h : Header} {ms : List Model} {rows : List ℕ} → Says s h → All (λ m. model_number m ≤ 16) ms → VoiceRows s h ms rows → Shape (little_endian rows)
unfolding little_endian
voice_shape o a VoiceRows.end = Shape.end
voice_shape o (All.next k a) (VoiceRows.next {m = m} {ns = ns} {more = more} x r v) =
    let c : model_number m < 0x100 = omega (arith, k) in
    subst Shape (sym (little-append ns more)) (shape_append (text_shape c (text_short o x) x.says r) (voice_shape o a v))

-- ---- the first byte is of the duration model, and 0

trees_there : {s : List ℕ} {i : ℕ} {ts : List Tree} {us : List TreePlace} → TreesAt s i ts us → 0 < length ts
trees_there (TreesAt.trees w p v) = trees_some p

text_there : {s : List ℕ} {i : ℕ} {t : Text} {l : Layout} → tree.Says s i t l → 0 < length t.trees
text_there (tree.Says.without ts) = trees_there ts
text_there (tree.Says.with_questions qs ts) = trees_there ts

first_row : {ts : List Tree} {us : List TreePlace} {ns : List ℕ} (more : List ℕ) → 0 < length ts → TrailerRows 0 ts us ns → get_or (little_endian (ns ++ more)) 0 0 ≡ 0
unfolding little_endian
first_row more l TrailerRows.none = absurd (omega arith)
first_row more l (TrailerRows.more k r) = refl

first_zero : {s : List ℕ} {h : Header} {ms : List Model} {rows : List ℕ} → VoiceRows s h (duration ∷ ms) rows → get_or (little_endian rows) 0 0 ≡ 0
first_zero (VoiceRows.next {more = more} x r v) = first_row more (text_there x.says) r

-- every byte of the rows has a 0 at most three before it
rows_near : {s : List ℕ} {h : Header} {ms : List Model} {rows : List ℕ} → Says s h → Models s h ms → VoiceRows s h ms rows → (o : ℕ) → o < length (little_endian rows) → Near (little_endian rows) o
rows_near {rows = rows} o m v k l = go (near (voice_shape o (models_few o m).0 v) k l) (first m v)
  where
    first : {s : List ℕ} {h : Header} {ms : List Model} {rows : List ℕ} → Models s h ms → VoiceRows s h ms rows → get_or (little_endian rows) 0 0 ≡ 0
    first (voice m) v = first_zero v

    go : Near (little_endian rows) k ⊎ (k ≡ 0) → get_or (little_endian rows) 0 0 ≡ 0 → Near (little_endian rows) k
    go (inl n) z = n
    go (inr e) z = let q : k - 0 ≡ 0 = omega arith in (0, omega arith, omega arith, ap (λ (i : ℕ). get_or (little_endian rows) i 0) q ∙ z)

-- ---- what stands before the data

behind : {n before : ℕ} {heading after following : List ℕ} {x : Span} → Part n heading before after x following → (a : List ℕ) × (after ≡ a ++ following)
behind {n} {heading = heading} {following = following} p = (
  newlines n ++ (heading ++ p.written),
  p.whole ∙ ap (λ (l : List ℕ). newlines n ++ l) (sym (append_assoc heading p.written following)) ∙ sym (append_assoc (newlines n) (heading ++ p.written) following),
)

-- "[DATA]" and a newline
pub data_heading : {file : List ℕ} {h : Header} → Says file h → (a : List ℕ) × (d : List ℕ) × (file ≡ a ++ (91 ∷ 68 ∷ 65 ∷ 84 ∷ 65 ∷ 93 ∷ 10 ∷ d)) × (length a + 7 ≡ h.datum.start) × (length d ≡ h.datum.len)
unfolding bytes
data_heading {file} {h} o =
    let c = o.split in
    let g = behind c.global in
    let s = behind c.stream in
    let p = behind c.position in
    let k : List ℕ = 91 ∷ 68 ∷ 65 ∷ 84 ∷ 65 ∷ 93 ∷ 10 ∷ c.dat in
    let n : List ℕ = newlines (suc c.n_data) in
    let x : List ℕ = g.0 ++ (s.0 ++ (p.0 ++ n)) in
    let e : file ≡ x ++ k =
    g.1 ∙ ap (λ (l : List ℕ). g.0 ++ l) (s.1 ∙ ap (λ (l : List ℕ). s.0 ++ l) (p.1 ∙ ap (λ (l : List ℕ). p.0 ++ l) c.rest
    ∙ sym (append_assoc p.0 n k)) ∙ sym (append_assoc s.0 (p.0 ++ n) k)) ∙ sym (append_assoc g.0 (s.0 ++ (p.0 ++ n)) k) in
    let l : length c.dat ≡ h.datum.len = sym c.rest_len ∙ ap (λ (z : Span). z.len) (sym o.datum) in
    let f : length file ≡ length x + (7 + length c.dat) = ap length e ∙ length-append x k ∙ ap (λ (i : ℕ). length x + i) (omega arith) in
    (x, c.dat, e, omega (arith, f, l, data_ends o), l)

-- ---- the rows begin in the data

-- a byte of the rows, as a byte of the file
in_rows : (before rows tail : List ℕ) (k : ℕ) → k < length rows → get_or ((before ++ rows) ++ tail) (length before + k) 0 ≡ get_or rows k 0
in_rows before rows tail k l =
    ap (λ (x : List ℕ). get_or x (length before + k) 0) (append_assoc before rows tail) ∙ get_or-append-add before (rows ++ tail) k 0 ∙ get_or-append rows tail 0 k l

-- the last four bytes before the data are no 0
heading_byte : (a d : List ℕ) (j : ℕ) → j ≤ 3 → ¬ (get_or (a ++ (91 ∷ 68 ∷ 65 ∷ 84 ∷ 65 ∷ 93 ∷ 10 ∷ d)) (length a + (6 - j)) 0 ≡ 0)
heading_byte a d j l e = go j l (sym (get_or-append-add a (91 ∷ 68 ∷ 65 ∷ 84 ∷ 65 ∷ 93 ∷ 10 ∷ d) (6 - j) 0) ∙ e)
  where
    go : (j : ℕ) → j ≤ 3 → get_or (91 ∷ 68 ∷ 65 ∷ 84 ∷ 65 ∷ 93 ∷ 10 ∷ d) (6 - j) 0 ≡ 0 → ⊥
    go zero l e = omega (arith, e)
    go (suc zero) l e = omega (arith, e)
    go (suc (suc zero)) l e = omega (arith, e)
    go (suc (suc (suc zero))) l e = omega (arith, e)
    go (suc (suc (suc (suc j)))) l e = omega arith

-- whoever cuts a file where its rows begin leaves its header whole
pub begins_in_data : {file rows : List ℕ} {b : ℕ} (t : Trailed file rows b) → t.record_of.datum.start ≤ b
begins_in_data {file} {rows} {b} t = go (dec_le t.record_of.datum.start b)
  where
    go : Dec (t.record_of.datum.start ≤ b) → t.record_of.datum.start ≤ b
    go (yes y) = y
    go (no n) =
        let e = t.ends in
        let w = data_heading t.opens in
        let r : List ℕ = little_endian rows in
        let last : List ℕ = e.says.count ∷ length e.before ∷ sum32 (e.before ++ unsummed e.before rows e.says.count) ∷ [] in
        let tail : List ℕ = little_endian last in
        let f : file ≡ (e.before ++ r) ++ tail = e.whole ∙ last_three e.says in
        let g : length file ≡ length e.before + length r + 12 = ap length f ∙ length-append (e.before ++ r) tail ∙ twelve (length-append e.before r) (little-length last) in
        let d = data_ends t.opens in
        let o : ℕ = t.record_of.datum.start - 1 - length e.before in
        let l : o < length r = omega (arith, g, d, e.begins, t.long) in
        let k = rows_near t.opens t.of_voice t.text o l in
        let i : length e.before + (o - k.0) ≡ length w.0 + (6 - k.0) = omega (arith, w.3, e.begins, k.1, k.2) in
        let s : o - k.0 < length r = omega arith in
        let x : get_or file (length e.before + (o - k.0)) 0 ≡ 0 = ap (λ (z : List ℕ). get_or z (length e.before + (o - k.0)) 0) f ∙ in_rows e.before r tail (o - k.0) s ∙ k.3 in
        absurd (heading_byte w.0 w.1 k.0 k.1 (sym (ap (λ (z : List ℕ). get_or z (length w.0 + (6 - k.0)) 0) w.2) ∙ sym (ap (λ (z : ℕ). get_or file z 0) i) ∙ x))
      where
        twelve : {m n p q : ℕ} → m ≡ n → p ≡ q → m + p ≡ n + q
        twelve a b = omega arith

-- a file cut where its rows begin opens, with the data that stood before them
pub cut_opens : {file rows : List ℕ} {b : ℕ} (t : Trailed file rows b) → Says t.ends.before (shorter t.record_of (length t.ends.trailer))
cut_opens t =
    let e = t.ends in
    shorter_opens e.before e.trailer (subst (λ (z : List ℕ). Says z t.record_of) e.whole t.opens) (subst (λ (n : ℕ). t.record_of.datum.start ≤ n) e.begins (begins_in_data t))
