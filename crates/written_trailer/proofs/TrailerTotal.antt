-- Of every opened file writing and reading have an answer: its models are told, each text is read or refused, and the last bytes are the trailer or not.
use mathlib.Core.Path.{◌≡◌, refl, sym, ap, ap₂, ◌∙◌}
use mathlib.Core.Bool.{Bool, true, false}
use mathlib.Core.Option.{Option, some, none}
use mathlib.Core.Logic.{◌⊎◌, inl, inr}
use mathlib.Core.List.{List, [], ◌∷◌, ◌++◌, List-discrete}
use Prim.Native.Nat.{ℕ, zero, suc, ◌+◌, ◌-◌, ◌*◌, ◌^◌, ◌≤◌, ◌<◌}
use native.Mathlib.Omega.{arith}
use native.Mathlib.Decide.{dec_le, ℕ_discrete}
use lib.ListN.{length, take, length-append}
use lib.Seq.{take_at}
use lib.IntN.{ℤ, pos, negsuc}
use Rattle.written.specs.Bytes.{Span}
use Rattle.written.specs.HeaderText.{Range}
use Rattle.written.specs.Record.{Stream, Position, Header, Says}
use Rattle.written.specs.Faults.{Refused}
use Rattle.written.specs.Blocks.{little_endian, Below32}
use Rattle.written.specs.Said.{Ref, Body, lone, braces, Tree, TreePlace, Text, Layout}
use Rattle.written.specs.TreeText as tree
use Rattle.written.specs.Breaks.{Breaks}
use Rattle.written.specs.Linking.{Nth, here, there, Last, Single, NotSingle}
use Rattle.written.specs.Tables.{LinesOf, Negative}
use Rattle.written.specs.Models.{Model, duration, stream, gv, model_number, OfName, a_stream, a_gv, bytes_of, stream_name, position_name, LastNamed, Unnamed, data_of, Within, EntriesOf, Placed, of_duration, of_stream, of_gv, NoGv, Unplaced, StreamModels, Models, voice, TextOf, NoTextOf}
use Rattle.written.specs.Trailer.{TrailerRows, VoiceRows, NoVoiceRows, sum32, unsummed, Trailer, EndsIn, Summed, WritesOf, FindsOf, Writes, Finds}
use Rattle.written.proofs.Walk.{no_row}
use Rattle.written.proofs.Links.{last_of, single?}
use Rattle.written_total.proofs.BreaksAlways.{says_or_breaks}
use Rattle.written_trailer.proofs.Trailing.{little-length, trailer_size}
use Rattle.written_trailer.proofs.TrailerFits.{writes_or, trailer_exists}

-- ---- models

-- what stands in a list at i
at? : {A : Type 0} (l : List A) (i : ℕ) → ((x : A) × Nth l i x) ⊎ ((x : A) → ¬ Nth l i x)
at? [] i = inr (λ x n. no_row n)
at? (x ∷ l) zero = inl (x, here)
at? {A} (x ∷ l) (suc i) = go (at? l i)
  where
    behind : {y : A} → Nth (x ∷ l) (suc i) y → Nth l i y
    behind (there n) = n

    go : ((y : A) × Nth l i y) ⊎ ((y : A) → ¬ Nth l i y) → ((y : A) × Nth (x ∷ l) (suc i) y) ⊎ ((y : A) → ¬ Nth (x ∷ l) (suc i) y)
    go (inl r) = inl (r.0, there r.1)
    go (inr f) = inr (λ y n. f y (behind n))

named_or : {A : Type 0} (name : A → Span) (s w : List ℕ) (l : List A) → ((x : A) × LastNamed name s w l x) ⊎ Unnamed name s w l
named_or {A} name s w l = go (last_of (λ e. List-discrete ℕ_discrete (bytes_of s (name e)) w) l)
  where
    go : ((k : ℕ) × Last (λ e. bytes_of s (name e) ≡ w) l k) ⊎ ((k : ℕ) (x : A) → Nth l k x → ¬ (bytes_of s (name x) ≡ w)) → ((x : A) × LastNamed name s w l x) ⊎ Unnamed name s w l
    go (inl r) = inl (r.1.at, record { row = r.0; last = r.1; entry = refl })
    go (inr f) = inr f

bool_or : (b : Bool) → (b ≡ true) ⊎ (b ≡ false)
bool_or true = inl refl
bool_or false = inr refl

option_or : {A : Type 0} (o : Option A) → ((a : A) × (o ≡ some a)) ⊎ (o ≡ none)
option_or (some a) = inl (a, refl)
option_or none = inr refl

module _ (s : List ℕ) (h : Header) where
  streams_total : (i : ℕ) (xs : List Span) → (ms : List Model) × StreamModels s h i xs ms
  streams_total i [] = ([], StreamModels.end)
  streams_total i (x ∷ xs) = go (named_or stream_name s (bytes_of s x) h.streams) (streams_total (suc i) xs)
    where
      gv_or : {d : Stream} → LastNamed stream_name s (bytes_of s x) h.streams d → (d.use_gv ≡ true) ⊎ (d.use_gv ≡ false) → (ms : List Model) × StreamModels s h (suc i) xs ms
          → (ms : List Model) × StreamModels s h i (x ∷ xs) ms
      gv_or n (inl u) r = (stream i ∷ gv i ∷ r.0, StreamModels.both n u r.1)
      gv_or n (inr u) r = (stream i ∷ r.0, StreamModels.alone n u r.1)

      go : ((d : Stream) × LastNamed stream_name s (bytes_of s x) h.streams d) ⊎ Unnamed stream_name s (bytes_of s x) h.streams → (ms : List Model) × StreamModels s h (suc i) xs ms
          → (ms : List Model) × StreamModels s h i (x ∷ xs) ms
      go (inl d) r = gv_or d.1 (bool_or d.0.use_gv) r
      go (inr u) r = (stream i ∷ r.0, StreamModels.unnamed u r.1)

  pub models_total : (ms : List Model) × Models s h ms
  models_total = let r = streams_total 0 h.global.stream_type in (duration ∷ r.0, voice r.1)

  -- 13, 14, or the entries of a name
  abbrev Entered : ℕ → Type 0
  Entered i = (d : Stream) × (p : Position) × EntriesOf s h i d p

  entered_or : {m : Model} {i : ℕ} → OfName m i → Entered i ⊎ ((n : ℕ) × Unplaced s h m n)
  entered_or {m} {i} o = go (at? h.global.stream_type i)
    where
      with_position : {x : Span} {p : Position} → Nth h.global.stream_type i x → LastNamed position_name s (bytes_of s x) h.positions p
          → ((d : Stream) × LastNamed stream_name s (bytes_of s x) h.streams d) ⊎ Unnamed stream_name s (bytes_of s x) h.streams → Entered i ⊎ ((n : ℕ) × Unplaced s h m n)
      with_position {x} {p} n q (inl d) = inl (d.0, p, record { name = x; named = n; in_positions = q; in_streams = d.1 })
      with_position n q (inr u) = inr (14, Unplaced.no_stream o n q u)

      named : {x : Span} → Nth h.global.stream_type i x → ((p : Position) × LastNamed position_name s (bytes_of s x) h.positions p) ⊎ Unnamed position_name s (bytes_of s x) h.positions
          → Entered i ⊎ ((n : ℕ) × Unplaced s h m n)
      named {x} n (inl p) = with_position n p.1 (named_or stream_name s (bytes_of s x) h.streams)
      named n (inr u) = inr (13, Unplaced.no_position o n u)

      go : ((x : Span) × Nth h.global.stream_type i x) ⊎ ((x : Span) → ¬ Nth h.global.stream_type i x) → Entered i ⊎ ((n : ℕ) × Unplaced s h m n)
      go (inl r) = named r.1 (named_or position_name s (bytes_of s r.0) h.positions)
      go (inr f) = inr (13, Unplaced.no_name o f)

  pub placed_or : (m : Model) → ((t : Range) × (b : Range) × (w : ℕ) × Placed s h m t b w) ⊎ ((n : ℕ) × Unplaced s h m n)
  placed_or duration = inl (_, _, _, of_duration)
  placed_or (stream i) = go (entered_or a_stream)
    where
      go : Entered i ⊎ ((n : ℕ) × Unplaced s h (stream i) n) → ((t : Range) × (b : Range) × (w : ℕ) × Placed s h (stream i) t b w) ⊎ ((n : ℕ) × Unplaced s h (stream i) n)
      go (inl e) = inl (_, _, _, of_stream e.2)
      go (inr u) = inr u
  placed_or (gv i) = go (entered_or a_gv)
    where
      with_gv : {d : Stream} {p : Position} → EntriesOf s h i d p → (d.use_gv ≡ true) ⊎ (d.use_gv ≡ false) → ((a : Range) × (p.gv_tree ≡ some a)) ⊎ (p.gv_tree ≡ none)
          → ((a : Range) × (p.gv_pdf ≡ some a)) ⊎ (p.gv_pdf ≡ none) → ((t : Range) × (b : Range) × (w : ℕ) × Placed s h (gv i) t b w) ⊎ ((n : ℕ) × Unplaced s h (gv i) n)
      with_gv e (inr u) t b = inr (15, Unplaced.no_gv e (NoGv.unused u))
      with_gv e (inl u) (inr t) b = inr (15, Unplaced.no_gv e (NoGv.no_tree t))
      with_gv e (inl u) (inl t) (inr b) = inr (15, Unplaced.no_gv e (NoGv.no_block b))
      with_gv e (inl u) (inl t) (inl b) = inl (_, _, _, of_gv e u t.1 b.1)

      go : Entered i ⊎ ((n : ℕ) × Unplaced s h (gv i) n) → ((t : Range) × (b : Range) × (w : ℕ) × Placed s h (gv i) t b w) ⊎ ((n : ℕ) × Unplaced s h (gv i) n)
      go (inl e) = with_gv e.2 (bool_or e.0.use_gv) (option_or e.1.gv_tree) (option_or e.1.gv_pdf)
      go (inr u) = inr u

-- the stream model of a name without an entry in [STREAM] is refused: nothing is lost where its GV is left out
pub unnamed_refused : (s : List ℕ) (h : Header) {i : ℕ} {x : Span} → Nth h.global.stream_type i x → Unnamed stream_name s (bytes_of s x) h.streams → (n : ℕ) × Unplaced s h (stream i) n
unnamed_refused s h {i} {x} n u = go (named_or position_name s (bytes_of s x) h.positions)
  where
    go : ((p : Position) × LastNamed position_name s (bytes_of s x) h.positions p) ⊎ Unnamed position_name s (bytes_of s x) h.positions → (k : ℕ) × Unplaced s h (stream i) k
    go (inl p) = (14, Unplaced.no_stream a_stream n p.1 u)
    go (inr v) = (13, Unplaced.no_position a_stream n v)

-- ---- texts

pub negative_or : (ts : List Tree) → Negative ts ⊎ (¬ Negative ts)
negative_or [] = inr none_here
  where
    none_here : ¬ Negative []
    none_here (Negative.negative n e) = no_row n
negative_or (t ∷ ts) = go t.state refl (negative_or ts)
  where
    up : Negative ts → Negative (t ∷ ts)
    up (Negative.negative n e) = Negative.negative (there n) e

    down : {n : ℕ} → t.state ≡ pos n → Negative (t ∷ ts) → Negative ts
    down e (Negative.negative here f) = let z : ◌≡◌ {A = ℕ} 0 1 = cc in absurd (omega arith)
    down e (Negative.negative (there n) f) = Negative.negative n f

    go : (x : ℤ) → t.state ≡ x → Negative ts ⊎ (¬ Negative ts) → Negative (t ∷ ts) ⊎ (¬ Negative (t ∷ ts))
    go (negsuc n) e r = inl (Negative.negative here e)
    go (pos n) e (inl r) = inl (up r)
    go (pos n) e (inr r) = inr (λ x. r (down e x))

pub within_or : (r : Range) (d : List ℕ) → Within r d ⊎ (¬ Within r d)
within_or r d = go (dec_le r.from (r.to + 1)) (dec_le (r.to + 1) (length d))
  where
    go : Dec (r.from ≤ r.to + 1) → Dec (r.to + 1 ≤ length d) → Within r d ⊎ (¬ Within r d)
    go (no n) b = inr (λ w. n w.order)
    go (yes a) (no n) = inr (λ w. n w.ends)
    go (yes a) (yes b) = inl (record { order = a; ends = b })

module _ (s : List ℕ) (h : Header) where
  pub text_or : (m : Model) → ((t : Text) × (l : Layout) × TextOf s h m t l) ⊎ ((n : ℕ) × (p : ℕ) × NoTextOf s h m n p)
  text_or m = go (placed_or s h m)
    where
      natural : {r b : Range} {w : ℕ} {t : Text} {l : Layout} → Placed s h m r b w → Within r (data_of s h) → tree.Says (take (r.to + 1) (data_of s h)) r.from t l → Negative t.trees ⊎ (¬ Negative t.trees)
          → ((t : Text) × (l : Layout) × TextOf s h m t l) ⊎ ((n : ℕ) × (p : ℕ) × NoTextOf s h m n p)
      natural p i y (inl n) = inr (18, 0, NoTextOf.negative p i y n)
      natural p i y (inr n) = inl (_, _, record { tree = _; block = _; width = _; placed = p; inside = i; says = y; natural = n })

      said : {r b : Range} {w : ℕ} → Placed s h m r b w → Within r (data_of s h)
          → ((t : Text) × (l : Layout) × tree.Says (take (r.to + 1) (data_of s h)) r.from t l) ⊎ ((p : ℕ) × Breaks (take (r.to + 1) (data_of s h)) r.from p)
          → ((t : Text) × (l : Layout) × TextOf s h m t l) ⊎ ((n : ℕ) × (p : ℕ) × NoTextOf s h m n p)
      said p i (inl y) = natural p i y.2 (negative_or y.0.trees)
      said p i (inr b) = inr (17, b.0, NoTextOf.breaks p i b.1)

      inside : {r b : Range} {w : ℕ} → Placed s h m r b w → Within r (data_of s h) ⊎ (¬ Within r (data_of s h)) → ((t : Text) × (l : Layout) × TextOf s h m t l) ⊎ ((n : ℕ) × (p : ℕ) × NoTextOf s h m n p)
      inside {r} p (inl i) = said p i (says_or_breaks (take (r.to + 1) (data_of s h)) r.from)
      inside p (inr o) = inr (16, 0, NoTextOf.outside p o)

      go : ((t : Range) × (b : Range) × (w : ℕ) × Placed s h m t b w) ⊎ ((n : ℕ) × Unplaced s h m n) → ((t : Text) × (l : Layout) × TextOf s h m t l) ⊎ ((n : ℕ) × (p : ℕ) × NoTextOf s h m n p)
      go (inl p) = inside p.3 (within_or p.0 (data_of s h))
      go (inr u) = inr (u.0, 0, NoTextOf.unplaced u.1)

-- ---- rows

lines_of : (t : Body) → (n : ℕ) × LinesOf t n
lines_of (lone r) = (0, LinesOf.single Single.alone)
lines_of (braces ls) = go (single? ls)
  where
    go : ((r : Ref) × Single (braces ls) r) ⊎ NotSingle ls → (n : ℕ) × LinesOf (braces ls) n
    go (inl a) = (0, LinesOf.single a.1)
    go (inr n) = (length ls, LinesOf.lines n)

module _ {s : List ℕ} where
  parted_rows : (m : ℕ) {i j : ℕ} {ts : List Tree} {us : List TreePlace} → tree.Parted (tree.Parting s) (tree.TreeAt s) i j ts us → (ns : List ℕ) × TrailerRows m ts us ns
  parted_rows m (tree.Parted.last {x = x} p) = (_, TrailerRows.more (lines_of x.body).1 TrailerRows.none)
  parted_rows m (tree.Parted.next {x = x} p q r) = (_, TrailerRows.more (lines_of x.body).1 (parted_rows m r).1)

  trees_rows : (m : ℕ) {i : ℕ} {ts : List Tree} {us : List TreePlace} → tree.TreesAt s i ts us → (ns : List ℕ) × TrailerRows m ts us ns
  trees_rows m (tree.TreesAt.trees b p e) = parted_rows m p

  -- every text has rows
  pub text_rows : (m : ℕ) {i : ℕ} {t : Text} {l : Layout} → tree.Says s i t l → (ns : List ℕ) × TrailerRows m t.trees l.trees ns
  text_rows m (tree.Says.without ts) = trees_rows m ts
  text_rows m (tree.Says.with_questions qs ts) = trees_rows m ts

pub voice_rows_or : (s : List ℕ) (h : Header) (ms : List Model) → ((rows : List ℕ) × VoiceRows s h ms rows) ⊎ ((n : ℕ) × (p : ℕ) × NoVoiceRows s h ms n p)
voice_rows_or s h [] = inl ([], VoiceRows.end)
voice_rows_or s h (m ∷ ms) = go (text_or s h m) (voice_rows_or s h ms)
  where
    go : ((t : Text) × (l : Layout) × TextOf s h m t l) ⊎ ((n : ℕ) × (p : ℕ) × NoTextOf s h m n p) → ((rows : List ℕ) × VoiceRows s h ms rows) ⊎ ((n : ℕ) × (p : ℕ) × NoVoiceRows s h ms n p)
        → ((rows : List ℕ) × VoiceRows s h (m ∷ ms) rows) ⊎ ((n : ℕ) × (p : ℕ) × NoVoiceRows s h (m ∷ ms) n p)
    go (inr n) r = inr (n.0, n.1, NoVoiceRows.here n.2)
    go (inl t) (inr n) = inr (n.0, n.1, NoVoiceRows.later t.2 n.2)
    go (inl t) (inl v) = inl (_, VoiceRows.next t.2 (text_rows (model_number m) t.2.says).1 v.1)

-- ---- writing

pub writes_of_total : {file : List ℕ} {h : Header} {ms : List Model} (room : ℕ) → Says file h → Models file h ms → (n : ℕ) × (p : ℕ) × (z : ℕ) × (t : List ℕ) × WritesOf file h ms room n p z t
writes_of_total {file} {h} {ms} room o m = go (voice_rows_or file h ms)
  where
    with_rows : (t : List ℕ) → WritesOf file h ms room 0 0 (length t) t ⊎ WritesOf file h ms room 26 0 (length t) [] → (n : ℕ) × (p : ℕ) × (z : ℕ) × (t : List ℕ) × WritesOf file h ms room n p z t
    with_rows t (inl w) = (_, _, _, _, w)
    with_rows t (inr w) = (_, _, _, _, w)

    go : ((rows : List ℕ) × VoiceRows file h ms rows) ⊎ ((n : ℕ) × (p : ℕ) × NoVoiceRows file h ms n p) → (n : ℕ) × (p : ℕ) × (z : ℕ) × (t : List ℕ) × WritesOf file h ms room n p z t
    go (inl v) = let x = writes_or room o m v.1 in with_rows x.0 x.1
    go (inr n) = (_, _, _, _, WritesOf.no_text n.2)

-- ---- reading

-- what stands before the last four bytes
summed_front : {file : List ℕ} (a : Summed file) → take (length file - 4) file ≡ a.earlier
summed_front {file} a =
    let t : List ℕ = little_endian (sum32 a.earlier ∷ []) in
    let e : length file ≡ length a.earlier + length t = ap length a.whole ∙ length-append a.earlier t in
    let f : length t ≡ 4 = little-length (sum32 a.earlier ∷ []) in
    let g : length a.earlier ≡ length file - 4 = omega arith in
    ap (take (length file - 4)) a.whole ∙ take_at a.earlier t (length file - 4) g

pub summed? : (file : List ℕ) → Dec (Summed file)
summed? file = go (List-discrete ℕ_discrete file (take (length file - 4) file ++ little_endian (sum32 (take (length file - 4) file) ∷ [])))
  where
    go : Dec (file ≡ take (length file - 4) file ++ little_endian (sum32 (take (length file - 4) file) ∷ [])) → Dec (Summed file)
    go (yes e) = yes (record { earlier = take (length file - 4) file; whole = e })
    go (no n) = no (λ a. n (a.whole ∙ sym (ap (λ (l : List ℕ). l ++ little_endian (sum32 l ∷ [])) (summed_front a))))

below_less : (rows : List ℕ) (c : ℕ) {n m : ℕ} → m ≤ n → Below32 (rows ++ (c ∷ n ∷ [])) → Below32 (rows ++ (c ∷ m ∷ []))
below_less [] c {n} {m} l (Below32.next a (Below32.next b Below32.end)) = let d : m < 2 ^ 32 = omega arith in Below32.next a (Below32.next d Below32.end)
below_less (r ∷ rows) c l (Below32.next a b) = Below32.next a (below_less rows c l b)

-- a trailer's bytes, by its file, rows and count
abbrev bytes_for : List ℕ → List ℕ → ℕ → List ℕ
bytes_for before rows count = unsummed before rows count ++ little_endian (sum32 (before ++ unsummed before rows count) ∷ [])

-- what stands before a trailer with these rows
ends_front : {file rows : List ℕ} {b : ℕ} (count : ℕ) → length rows ≡ 3 * count → (x : EndsIn file rows b) → take (length file - (12 * count + 12)) file ≡ x.before
ends_front {file} {rows} count t x =
    let e : length file ≡ length x.before + length x.trailer = ap length x.whole ∙ length-append x.before x.trailer in
    let c : x.says.count ≡ count = omega (arith, x.says.threes) in
    let f : length x.trailer ≡ 12 * count + 12 = trailer_size x.says ∙ ap (λ (n : ℕ). 12 * n + 12) c in
    let g : length x.before ≡ length file - (12 * count + 12) = omega arith in
    ap (take (length file - (12 * count + 12))) x.whole ∙ take_at x.before x.trailer (length file - (12 * count + 12)) g

pub ends? : (file rows : List ℕ) {t : List ℕ} → Trailer file rows t → Dec ((b : ℕ) × EndsIn file rows b)
ends? file rows T = go (take (length file - (12 * T.count + 12)) file) refl (List-discrete ℕ_discrete file (take (length file - (12 * T.count + 12)) file ++ bytes_for (take (length file - (12 * T.count + 12)) file) rows T.count))
  where
    go : (before : List ℕ) → take (length file - (12 * T.count + 12)) file ≡ before → Dec (file ≡ before ++ bytes_for before rows T.count) → Dec ((b : ℕ) × EndsIn file rows b)
    go before q (yes e) =
        let l : length before ≤ length file = omega (arith, ap length e, length-append before (bytes_for before rows T.count)) in
        yes (
          length before,
          record {
            before = before;
            trailer = bytes_for before rows T.count;
            whole = e;
            says = record { count = T.count; threes = T.threes; below = below_less rows T.count l T.below; whole = refl };
            begins = refl;
          },
        )
    go before q (no n) = no (λ x. n (same x.1))
      where
        same : {b : ℕ} → EndsIn file rows b → file ≡ before ++ bytes_for before rows T.count
        same x =
            let f : x.before ≡ before = sym (ends_front T.count T.threes x) ∙ q in
            let c : x.says.count ≡ T.count = omega (arith, x.says.threes, T.threes) in
            x.whole ∙ ap (λ (l : List ℕ). x.before ++ l) x.says.whole ∙ ap₂ (λ (l : List ℕ) (k : ℕ). l ++ bytes_for l rows k) f c

pub finds_of_total : {file : List ℕ} {h : Header} {ms : List Model} → Says file h → Models file h ms → (n : ℕ) × (p : ℕ) × (rows : List ℕ) × (b : ℕ) × FindsOf file h ms n p rows b
finds_of_total {file} {h} {ms} o m = go (dec_le 12 h.datum.len) (summed? file) (voice_rows_or file h ms)
  where
    Goal : Type 0
    Goal = (n : ℕ) × (p : ℕ) × (rows : List ℕ) × (b : ℕ) × FindsOf file h ms n p rows b

    with_rows : {rows : List ℕ} → 12 ≤ h.datum.len → Summed file → VoiceRows file h ms rows → Dec ((b : ℕ) × EndsIn file rows b) → Goal
    with_rows l x v (yes e) = (_, _, _, _, FindsOf.found l x v e.1)
    with_rows l x v (no n) = (_, _, _, _, FindsOf.other l x v (λ b e. n (b, e)))

    go : Dec (12 ≤ h.datum.len) → Dec (Summed file) → ((rows : List ℕ) × VoiceRows file h ms rows) ⊎ ((n : ℕ) × (p : ℕ) × NoVoiceRows file h ms n p) → Goal
    go (no n) x v = let l : h.datum.len < 12 = omega arith in (_, _, _, _, FindsOf.short l)
    go (yes l) (no n) v = (_, _, _, _, FindsOf.sum l n)
    go (yes l) (yes x) (inr n) = (_, _, _, _, FindsOf.no_text l x n.2)
    go (yes l) (yes x) (inl v) = with_rows l x v.1 (ends? file v.0 (trailer_exists o m v.1).1)

-- ---- where opening has an answer, so have writing and reading

module _ (file : List ℕ) (opening : ((h : Header) × Says file h) ⊎ ((n : ℕ) × (p : ℕ) × Refused file n p)) where
  pub writes_total : (room : ℕ) → (n : ℕ) × (p : ℕ) × (z : ℕ) × (t : List ℕ) × Writes file room n p z t
  writes_total room = go opening
    where
      go : ((h : Header) × Says file h) ⊎ ((n : ℕ) × (p : ℕ) × Refused file n p) → (n : ℕ) × (p : ℕ) × (z : ℕ) × (t : List ℕ) × Writes file room n p z t
      go (inl o) = let m = models_total file o.0 in let w = writes_of_total room o.1 m.1 in (_, _, _, _, Writes.opened o.1 m.1 w.4)
      go (inr r) = (_, _, _, _, Writes.unopened r.2)

  pub finds_total : (n : ℕ) × (p : ℕ) × (rows : List ℕ) × (b : ℕ) × Finds file n p rows b
  finds_total = go opening
    where
      go : ((h : Header) × Says file h) ⊎ ((n : ℕ) × (p : ℕ) × Refused file n p) → (n : ℕ) × (p : ℕ) × (rows : List ℕ) × (b : ℕ) × Finds file n p rows b
      go (inl o) = let m = models_total file o.0 in let w = finds_of_total o.1 m.1 in (_, _, _, _, Finds.opened o.1 m.1 w.4)
      go (inr r) = (_, _, _, _, Finds.unopened r.2)
