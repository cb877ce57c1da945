-- The trailer: its sum; a file and its rows have one; what is written is read; each answer of writing and of reading is the only one.
use mathlib.Core.Path.{◌≡◌, refl, sym, ap, ap₂, ◌∙◌, subst, subst₂}
use mathlib.Core.Logic.{◌⊎◌, ⊎_elim}
use mathlib.Core.List.{List, [], ◌∷◌, ◌++◌, append_assoc}
use Prim.Native.Nat.{ℕ, ◌+◌, ◌*◌, ◌/◌, ◌%◌, ◌^◌, ◌≤◌, ◌<◌}
use native.Mathlib.Omega.{arith}
use lib.ListN.{length, length-append}
use Rattle.written.specs.Record.{Header, Says, All, file_limit}
use Rattle.written.specs.Blocks.{little_endian, Below32, total}
use Rattle.written.specs.Blocks as B
use Rattle.written.specs.Said.{Body, Tree, TreePlace, Text, Layout}
use Rattle.written.specs.Tables.{LinesOf}
use Rattle.written.specs.Models.{Model, model_number, Models}
use Rattle.written.specs.Trailer.{TrailerRows, VoiceRows, NoVoiceRows, sum32, unsummed, Trailer, EndsIn, Summed, WritesOf, FindsOf, Writes, Finds, longer}
use Rattle.written.proofs.OneFile.{heads, tails, append_same, says_one}
use Rattle.written.proofs.OneBlock.{bytes_one}
use Rattle.written_apart.proofs.ApartFile.{says_never, refused_one}
use Rattle.written_models.proofs.OneModel.{models_one, text_one, text_never, no_text_one}
use Rattle.written_models.proofs.Longer.{longer_opens}
use Rattle.written_models.proofs.LongerModels.{models_longer, text_longer}

-- ---- the sum

pub total-append : (a b : List ℕ) → total (a ++ b) ≡ total a + total b
unfolding total
total-append [] b = omega arith
total-append (x ∷ a) b = omega (arith, total-append a b)

mod_sum : (x y : ℕ) → (x + y) % 2 ^ 32 ≡ (x % 2 ^ 32 + y % 2 ^ 32) % 2 ^ 32
mod_sum x y = omega arith

-- of two pieces
pub sum-append : (a b : List ℕ) → sum32 (a ++ b) ≡ (sum32 a + sum32 b) % 2 ^ 32
unfolding sum32
sum-append a b = ap (λ (n : ℕ). n % 2 ^ 32) (total-append a b) ∙ mod_sum (total a) (total b)

-- of one byte more
pub sum_next : (a : List ℕ) (b : ℕ) → sum32 (a ++ (b ∷ [])) ≡ (sum32 a + b) % 2 ^ 32
unfolding sum32 total
sum_next a b = ap (λ (n : ℕ). n % 2 ^ 32) (total-append a (b ∷ [])) ∙ go (total a)
  where
    go : (x : ℕ) → (x + (b + 0)) % 2 ^ 32 ≡ (x % 2 ^ 32 + b) % 2 ^ 32
    go x = omega arith

pub sum_below : (s : List ℕ) → sum32 s < 2 ^ 32
unfolding sum32
sum_below s = omega arith

total_bound : (s : List ℕ) → All (λ b. b < 256) s → total s ≤ 255 * length s
unfolding total
total_bound [] All.end = omega arith
total_bound (b ∷ s) (All.next h a) = omega (arith, h, total_bound s a)

-- within the limit the sum is the plain sum: 16,777,216 × 255 is below 2^32, so no file shows the wrap-around
pub sum-plain : (s : List ℕ) → All (λ b. b < 256) s → length s ≤ file_limit → sum32 s ≡ total s
unfolding sum32
sum-plain s a l = omega (arith, total_bound s a)

-- ---- numbers as bytes

pub little-append : (a b : List ℕ) → little_endian (a ++ b) ≡ little_endian a ++ little_endian b
unfolding little_endian
little-append [] b = refl
little-append (n ∷ a) b = ap (λ (l : List ℕ). (n % 0x100) ∷ (n / 0x100 % 0x100) ∷ (n / 0x1_0000 % 0x100) ∷ (n / 0x100_0000 % 0x100) ∷ l) (little-append a b)

pub little-length : (a : List ℕ) → length (little_endian a) ≡ 4 * length a
unfolding little_endian
little-length [] = refl
little-length (n ∷ a) = omega (arith, little-length a)

below_left : (a b : List ℕ) → Below32 (a ++ b) → Below32 a
below_left [] b h = B.Below32.end
below_left (n ∷ a) b (B.Below32.next l h) = B.Below32.next l (below_left a b h)

below_right : (a : List ℕ) {b : List ℕ} → Below32 (a ++ b) → Below32 b
below_right [] h = h
below_right (n ∷ a) (B.Below32.next l h) = below_right a h

below_append : {a b : List ℕ} → Below32 a → Below32 b → Below32 (a ++ b)
below_append B.Below32.end k = k
below_append (B.Below32.next l h) k = B.Below32.next l (below_append h k)

-- ---- the trailer of a file and its rows

-- there is one
pub trailer_once : {file rows t u : List ℕ} → Trailer file rows t → Trailer file rows u → t ≡ u
trailer_once {file} {rows} a b =
    let e : a.count ≡ b.count = omega (arith, a.threes, b.threes) in
    a.whole ∙ ap (λ (n : ℕ). unsummed file rows n ++ little_endian (sum32 (file ++ unsummed file rows n) ∷ [])) e ∙ sym b.whole

-- 12 bytes a row, and 12
pub trailer_size : {file rows t : List ℕ} (a : Trailer file rows t) → length t ≡ 12 * a.count + 12
trailer_size {file} {rows} a =
    let x : List ℕ = rows ++ (a.count ∷ length file ∷ []) in
    let y : List ℕ = sum32 (file ++ little_endian x) ∷ [] in
    let e = ap length a.whole ∙ length-append (little_endian x) (little_endian y) in
    let f = little-length x in
    let g = little-length y in
    let k = length-append rows (a.count ∷ length file ∷ []) in
    omega (arith, e, f, g, k, a.threes)

-- the last three numbers behind all that is before them
pub last_three : {file rows t : List ℕ} (a : Trailer file rows t) → file ++ t ≡ (file ++ little_endian rows) ++ little_endian (a.count ∷ length file ∷ sum32 (file ++ unsummed file rows a.count) ∷ [])
last_three {file} {rows} a =
    let n : List ℕ = a.count ∷ length file ∷ [] in
    let y : ℕ = sum32 (file ++ unsummed file rows a.count) in
    let e : little_endian (rows ++ n) ++ little_endian (y ∷ []) ≡ little_endian rows ++ little_endian (a.count ∷ length file ∷ y ∷ []) =
    ap (λ (l : List ℕ). l ++ little_endian (y ∷ [])) (little-append rows n) ∙ append_assoc (little_endian rows) (little_endian n) (little_endian (y ∷ []))
    ∙ ap (λ (l : List ℕ). little_endian rows ++ l) (sym (little-append n (y ∷ []))) in
    ap (λ (l : List ℕ). file ++ l) (a.whole ∙ e) ∙ sym (append_assoc file (little_endian rows) (little_endian (a.count ∷ length file ∷ y ∷ [])))

three_below : {file rows t : List ℕ} (a : Trailer file rows t) → Below32 (a.count ∷ length file ∷ sum32 (file ++ unsummed file rows a.count) ∷ [])
three_below {file} {rows} a = below_append (below_right rows a.below) (B.Below32.next (sum_below (file ++ unsummed file rows a.count)) B.Below32.end)

-- a file ends in one trailer: its last three numbers say where the rows begin
pub ends_once : {file rows more : List ℕ} {b c : ℕ} → EndsIn file rows b → EndsIn file more c → (rows ≡ more) × (b ≡ c)
ends_once {file} {rows} {more} x y =
    let p = x.says in
    let q = y.says in
    let e = sym (x.whole ∙ last_three p) ∙ y.whole ∙ last_three q in
    let n : List ℕ = p.count ∷ length x.before ∷ sum32 (x.before ++ unsummed x.before rows p.count) ∷ [] in
    let m : List ℕ = q.count ∷ length y.before ∷ sum32 (y.before ++ unsummed y.before more q.count) ∷ [] in
    let ln : length (little_endian n) ≡ 12 = little-length n in
    let lm : length (little_endian m) ≡ 12 = little-length m in
    let la = length-append (x.before ++ little_endian rows) (little_endian n) in
    let lb = length-append (y.before ++ little_endian more) (little_endian m) in
    let same : length (x.before ++ little_endian rows) ≡ length (y.before ++ little_endian more) = omega (arith, ap length e, la, lb, ln, lm) in
    let h = append_same (x.before ++ little_endian rows) (y.before ++ little_endian more) same e in
    let k : n ≡ m = bytes_one (three_below p) (three_below q) h.1 in
    let c : p.count ≡ q.count = heads k in
    let b : length x.before ≡ length y.before = heads (tails k) in
    let g = append_same x.before y.before b h.0 in
    (bytes_one (below_left rows (p.count ∷ length x.before ∷ []) p.below) (below_left more (q.count ∷ length y.before ∷ []) q.below) g.1, x.begins ∙ b ∙ sym y.begins)

-- such a file ends in its sum
pub ends_summed : {file rows : List ℕ} {b : ℕ} → EndsIn file rows b → Summed file
ends_summed {file} {rows} x =
    let u : List ℕ = unsummed x.before rows x.says.count in
    record {
      earlier = x.before ++ u;
      whole = x.whole ∙ ap (λ (l : List ℕ). x.before ++ l) x.says.whole ∙ sym (append_assoc x.before u (little_endian (sum32 (x.before ++ u) ∷ [])));
    }

-- a file with its trailer behind it ends in it
pub trailer_ends : {file rows t : List ℕ} → Trailer file rows t → EndsIn (file ++ t) rows (length file)
trailer_ends {file} {rows} {t} a = record { before = file; trailer = t; whole = refl; says = a; begins = refl }

-- ---- rows

lines_once : {t : Body} {n m : ℕ} → LinesOf t n → LinesOf t m → n ≡ m
lines_once (LinesOf.single a) (LinesOf.single b) = refl
lines_once (LinesOf.single {r = r} a) (LinesOf.lines n) = absurd (n r a)
lines_once (LinesOf.lines n) (LinesOf.single {r = r} a) = absurd (n r a)
lines_once (LinesOf.lines n) (LinesOf.lines m) = refl

pub rows_once : {m : ℕ} {ts : List Tree} {us : List TreePlace} {a b : List ℕ} → TrailerRows m ts us a → TrailerRows m ts us b → a ≡ b
rows_once TrailerRows.none TrailerRows.none = refl
rows_once {m} (TrailerRows.more {u = u} l r) (TrailerRows.more k q) = ap₂ (λ (n : ℕ) (ns : List ℕ). m ∷ u.star ∷ n ∷ ns) (lines_once l k) (rows_once r q)

module _ {s : List ℕ} {h : Header} where
  pub voice_rows_once : {ms : List Model} {a b : List ℕ} → VoiceRows s h ms a → VoiceRows s h ms b → a ≡ b
  voice_rows_once VoiceRows.end VoiceRows.end = refl
  voice_rows_once (VoiceRows.next {m = m} {ns = ns} t r v) (VoiceRows.next u q w) =
      let e = text_one t u in
      ap₂ ◌++◌ (rows_once (subst₂ (λ (x : Text) (l : Layout). TrailerRows (model_number m) x.trees l.trees ns) e.0 e.1 r) q) (voice_rows_once v w)

  pub voice_rows_never : {ms : List Model} {a : List ℕ} {n p : ℕ} → VoiceRows s h ms a → NoVoiceRows s h ms n p → ⊥
  voice_rows_never (VoiceRows.next t r v) (NoVoiceRows.here n) = text_never t n
  voice_rows_never (VoiceRows.next t r v) (NoVoiceRows.later u n) = voice_rows_never v n
  voice_rows_never {n = n} {p = p} Rattle.written.specs.Trailer.end x4 = elim x4 [ ]

  pub no_voice_rows_once : {ms : List Model} {n k p q : ℕ} → NoVoiceRows s h ms n p → NoVoiceRows s h ms k q → (n ≡ k) × (p ≡ q)
  no_voice_rows_once (NoVoiceRows.here a) (NoVoiceRows.here b) = no_text_one a b
  no_voice_rows_once (NoVoiceRows.here a) (NoVoiceRows.later t b) = absurd (text_never t a)
  no_voice_rows_once (NoVoiceRows.later t a) (NoVoiceRows.here b) = absurd (text_never t b)
  no_voice_rows_once (NoVoiceRows.later t a) (NoVoiceRows.later u b) = no_voice_rows_once a b

  -- the rows are those of the file with bytes behind it
  pub voice_rows_longer : Says s h → (t : List ℕ) → {ms : List Model} {a : List ℕ} → VoiceRows s h ms a → VoiceRows (s ++ t) (longer h (length t)) ms a
  voice_rows_longer o t VoiceRows.end = VoiceRows.end
  voice_rows_longer o t (VoiceRows.next x r v) = VoiceRows.next (text_longer o t x) r (voice_rows_longer o t v)

-- ---- what is written is read

pub written_read : {file rows t : List ℕ} {h : Header} {ms : List Model} → Says file h → Models file h ms → VoiceRows file h ms rows → Trailer file rows t
    → length file + length t ≤ file_limit → Finds (file ++ t) 0 0 rows (length file)
written_read {file} {rows} {t} {h} o m v a l =
    let f : length (file ++ t) ≤ file_limit = omega (arith, length-append file t) in
    let z : 12 ≤ h.datum.len + length t = omega (arith, trailer_size a) in
    let e = trailer_ends a in
    Finds.opened (longer_opens file t o f) (models_longer o t m) (FindsOf.found z (ends_summed e) (voice_rows_longer o t v) e)

-- the trailer that a writer hands out is read
pub writes_read : {file t : List ℕ} {room n p z : ℕ} → Writes file room n p z t → 0 < length t → (rows : List ℕ) × Finds (file ++ t) 0 0 rows (length file)
writes_read (Writes.unopened r) l = absurd (omega arith)
writes_read (Writes.opened o m (WritesOf.no_text n)) l = absurd (omega arith)
writes_read (Writes.opened o m (WritesOf.no_room v a n)) l = absurd (omega arith)
writes_read (Writes.opened o m (WritesOf.written {rows = rows} v a r f)) l = (rows, written_read o m v a f)

-- ---- one answer

pub record SameWriting (n k p q y z : ℕ) (t u : List ℕ) : Type 0 where
  pub number : n ≡ k
  pub place : p ≡ q
  pub size : y ≡ z
  pub bytes : t ≡ u

both_rooms : (file t : List ℕ) (room : ℕ) → (room < length t) ⊎ (file_limit < length file + length t) → length t ≤ room → length file + length t ≤ file_limit → ⊥
both_rooms file t room o a b = ⊎_elim (λ l. omega arith) (λ l. omega arith) o

module _ {file : List ℕ} {h : Header} {ms : List Model} where
  trailers : {rows more t u : List ℕ} → VoiceRows file h ms rows → VoiceRows file h ms more → Trailer file rows t → Trailer file more u → t ≡ u
  trailers {t = t} v w a b = trailer_once (subst (λ (r : List ℕ). Trailer file r t) (voice_rows_once v w) a) b

  writes_of_once : {room n k p q y z : ℕ} {t u : List ℕ} → WritesOf file h ms room n p y t → WritesOf file h ms room k q z u → SameWriting n k p q y z t u
  writes_of_once (WritesOf.no_text a) (WritesOf.no_text b) = let e = no_voice_rows_once a b in record { number = e.0; place = e.1; size = refl; bytes = refl }
  writes_of_once (WritesOf.no_text a) (WritesOf.no_room v b o) = absurd (voice_rows_never v a)
  writes_of_once (WritesOf.no_text a) (WritesOf.written v b o l) = absurd (voice_rows_never v a)
  writes_of_once (WritesOf.no_room v a o) (WritesOf.no_text b) = absurd (voice_rows_never v b)
  writes_of_once (WritesOf.no_room v a o) (WritesOf.no_room w b r) = record { number = refl; place = refl; size = ap length (trailers v w a b); bytes = refl }
  writes_of_once {room} (WritesOf.no_room v a o) (WritesOf.written {trailer = u} w b r l) =
      absurd (both_rooms file u room (subst (λ (x : List ℕ). (room < length x) ⊎ (file_limit < length file + length x)) (trailers v w a b) o) r l)
  writes_of_once (WritesOf.written v a o l) (WritesOf.no_text b) = absurd (voice_rows_never v b)
  writes_of_once {room} (WritesOf.written {trailer = t} v a o l) (WritesOf.no_room w b r) =
      absurd (both_rooms file t room (subst (λ (x : List ℕ). (room < length x) ⊎ (file_limit < length file + length x)) (trailers w v b a) r) o l)
  writes_of_once (WritesOf.written v a o l) (WritesOf.written w b r k) = let e = trailers v w a b in record { number = refl; place = refl; size = ap length e; bytes = e }

pub writes_once : {file t u : List ℕ} {room n k p q y z : ℕ} → Writes file room n p y t → Writes file room k q z u → SameWriting n k p q y z t u
writes_once (Writes.unopened a) (Writes.unopened b) = let e = refused_one a b in record { number = e.0; place = e.1; size = refl; bytes = refl }
writes_once (Writes.unopened a) (Writes.opened o m w) = absurd (says_never o a)
writes_once (Writes.opened o m w) (Writes.unopened a) = absurd (says_never o a)
writes_once {file} {t} {u} {room} {n} {k} {p} {q} {y} {z} (Writes.opened {h = h} {ms = ms} o m w) (Writes.opened {h = g} {ms = ns} o' m' w') =
    let e = says_one o o' in
    let x = models_one (subst (λ (l : Header). Models file l ms) e m) m' in
    writes_of_once (subst₂ (λ (l : Header) (i : List Model). WritesOf file l i room n p y t) e x w) w'

pub record SameReading (n k p q b c : ℕ) (rows more : List ℕ) : Type 0 where
  pub number : n ≡ k
  pub place : p ≡ q
  pub row : rows ≡ more
  pub begin : b ≡ c

module _ {file : List ℕ} {h : Header} {ms : List Model} where
  same_rows : {rows more : List ℕ} {b : ℕ} → VoiceRows file h ms rows → VoiceRows file h ms more → EndsIn file rows b → EndsIn file more b
  same_rows {b = b} v w e = subst (λ (r : List ℕ). EndsIn file r b) (voice_rows_once v w) e

  finds_of_once : {n k p q b c : ℕ} {rows more : List ℕ} → FindsOf file h ms n p rows b → FindsOf file h ms k q more c → SameReading n k p q b c rows more
  finds_of_once (FindsOf.short a) (FindsOf.short b) = record { number = refl; place = refl; row = refl; begin = refl }
  finds_of_once (FindsOf.short a) (FindsOf.sum b s) = absurd (omega arith)
  finds_of_once (FindsOf.short a) (FindsOf.no_text b s n) = absurd (omega arith)
  finds_of_once (FindsOf.short a) (FindsOf.other b s v o) = absurd (omega arith)
  finds_of_once (FindsOf.short a) (FindsOf.found b s v e) = absurd (omega arith)
  finds_of_once (FindsOf.sum a x) (FindsOf.short b) = absurd (omega arith)
  finds_of_once (FindsOf.sum a x) (FindsOf.sum b s) = record { number = refl; place = refl; row = refl; begin = refl }
  finds_of_once (FindsOf.sum a x) (FindsOf.no_text b s n) = absurd (x s)
  finds_of_once (FindsOf.sum a x) (FindsOf.other b s v o) = absurd (x s)
  finds_of_once (FindsOf.sum a x) (FindsOf.found b s v e) = absurd (x s)
  finds_of_once (FindsOf.no_text a x i) (FindsOf.short b) = absurd (omega arith)
  finds_of_once (FindsOf.no_text a x i) (FindsOf.sum b s) = absurd (s x)
  finds_of_once (FindsOf.no_text a x i) (FindsOf.no_text b s n) = let e = no_voice_rows_once i n in record { number = e.0; place = e.1; row = refl; begin = refl }
  finds_of_once (FindsOf.no_text a x i) (FindsOf.other b s v o) = absurd (voice_rows_never v i)
  finds_of_once (FindsOf.no_text a x i) (FindsOf.found b s v e) = absurd (voice_rows_never v i)
  finds_of_once (FindsOf.other a x u i) (FindsOf.short b) = absurd (omega arith)
  finds_of_once (FindsOf.other a x u i) (FindsOf.sum b s) = absurd (s x)
  finds_of_once (FindsOf.other a x u i) (FindsOf.no_text b s n) = absurd (voice_rows_never u n)
  finds_of_once (FindsOf.other a x u i) (FindsOf.other b s v o) = record { number = refl; place = refl; row = refl; begin = refl }
  finds_of_once (FindsOf.other a x u i) (FindsOf.found {begin = c} b s v e) = absurd (i c (same_rows v u e))
  finds_of_once (FindsOf.found a x u i) (FindsOf.short b) = absurd (omega arith)
  finds_of_once (FindsOf.found a x u i) (FindsOf.sum b s) = absurd (s x)
  finds_of_once (FindsOf.found a x u i) (FindsOf.no_text b s n) = absurd (voice_rows_never u n)
  finds_of_once (FindsOf.found {begin = c} a x u i) (FindsOf.other b s v o) = absurd (o c (same_rows u v i))
  finds_of_once (FindsOf.found a x u i) (FindsOf.found b s v e) = let z = ends_once i e in record { number = refl; place = refl; row = z.0; begin = z.1 }

pub finds_once : {file rows more : List ℕ} {n k p q b c : ℕ} → Finds file n p rows b → Finds file k q more c → SameReading n k p q b c rows more
finds_once (Finds.unopened a) (Finds.unopened b) = let e = refused_one a b in record { number = e.0; place = e.1; row = refl; begin = refl }
finds_once (Finds.unopened a) (Finds.opened o m w) = absurd (says_never o a)
finds_once (Finds.opened o m w) (Finds.unopened a) = absurd (says_never o a)
finds_once {file} {rows} {more} {n} {k} {p} {q} {b} {c} (Finds.opened {ms = ms} o m w) (Finds.opened o' m' w') =
    let e = says_one o o' in
    let x = models_one (subst (λ (l : Header). Models file l ms) e m) m' in
    finds_of_once (subst₂ (λ (l : Header) (i : List Model). FindsOf file l i n p rows b) e x w) w'
