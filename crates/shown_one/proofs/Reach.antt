-- The rows of a file that ends in its trailer reach the trees of each of its models: read at the file's end, those of a model's number are its trees, in order.
use mathlib.Core.Path.{◌≡◌, refl, sym, ap, ap₂, ◌∙◌, subst}
use mathlib.Core.Bool.{Bool, true, cond, true≢false}
use mathlib.Core.List.{List, [], ◌∷◌, ◌++◌, map, append_assoc, append-nil}
use Prim.Native.Nat.{ℕ, zero, suc, ◌+◌, ◌-◌, ◌*◌, ◌/◌, ◌%◌, ◌^◌, ◌≤◌, ◌<◌}
use native.Mathlib.Omega.{arith}
use borrow.Author.Tests.{eq-eqb, ne_eqb}
use lib.Dec.{eqb}
use lib.ListN.{length, get_or, length-append}
use lib.Seq.{get_or-append-add}
use Rattle.written.specs.Bytes.{Span}
use Rattle.written.specs.Record.{Header, All}
use Rattle.written.specs.Said.{Tree, TreePlace, Text, Layout}
use Rattle.written.specs.Linking.{Nth, here, there}
use Rattle.written.specs.Blocks.{little_endian, Below32}
use Rattle.written.specs.Models.{Model, duration, stream, gv, model_number, StreamModels, Models, Placed, of_duration, of_stream, of_gv, TextOf, bytes_of}
use Rattle.written.specs.Models as models
use Rattle.written.specs.Trailer.{TrailerRows, VoiceRows, sum32, unsummed, Trailer, EndsIn}
use Rattle.written_models.proofs.OneModel.{named_one, named_never, text_one}
use Rattle.written_trailer.proofs.Trailing.{little-append, little-length, trailer_size}
use Rattle.head_record.specs.declared.Header.{Header as Code}
use Rattle.pdf_blocks.specs.Values.{word_at, words_at}
use Rattle.trail_find.specs.Rows.{offsets_at}
use Rattle.trail_find.proofs.Laws.{trail_rows}
use Rattle.shown_one.specs.One.{star_of, Reaching}

clash : {A : Type 0} → ◌≡◌ {A = ℕ} 0 1 → A
clash e = absurd (omega arith)

-- ---- numbers behind some bytes

-- a number is that of its four bytes
of_bytes : (n : ℕ) → n < 2 ^ 32 → n % 0x100 + n / 0x100 % 0x100 * 0x100 + n / 0x1_0000 % 0x100 * 0x1_0000 + n / 0x100_0000 % 0x100 * 0x100_0000 ≡ n
of_bytes n h =
    let d : n / 0x1_0000 ≡ n / 0x100 / 0x100 = omega arith in
    let e : n / 0x100_0000 ≡ n / 0x1_0000 / 0x100 = omega arith in
    let f : n / 0x100_0000 < 0x100 = omega arith in
    of_parts n (n / 0x100) (n / 0x1_0000) (n / 0x100_0000) (omega arith) (omega arith) (omega arith) f
  where
    of_parts : (n a b c : ℕ) → n ≡ n % 0x100 + a * 0x100 → a ≡ a % 0x100 + b * 0x100 → b ≡ b % 0x100 + c * 0x100 → c < 0x100 → n % 0x100 + a % 0x100 * 0x100 + b % 0x100 * 0x1_0000 + c % 0x100 * 0x100_0000 ≡ n
    of_parts n a b c p q r s = let z : c % 0x100 ≡ c = omega arith in omega arith

-- the one that stands behind p
word_there : (p : List ℕ) (n : ℕ) (q : List ℕ) → n < 2 ^ 32 → word_at (p ++ ((n % 0x100) ∷ (n / 0x100 % 0x100) ∷ (n / 0x1_0000 % 0x100) ∷ (n / 0x100_0000 % 0x100) ∷ q)) (length p) ≡ n
word_there p n q h =
    let b = (n % 0x100) ∷ (n / 0x100 % 0x100) ∷ (n / 0x1_0000 % 0x100) ∷ (n / 0x100_0000 % 0x100) ∷ q in
    let z : length p + 0 ≡ length p = omega arith in
    let e₀ : get_or (p ++ b) (length p) 0 ≡ n % 0x100 = ap (λ (i : ℕ). get_or (p ++ b) i 0) (sym z) ∙ get_or-append-add p b 0 0 in
    let e₁ : get_or (p ++ b) (length p + 1) 0 ≡ n / 0x100 % 0x100 = get_or-append-add p b 1 0 in
    let e₂ : get_or (p ++ b) (length p + 2) 0 ≡ n / 0x1_0000 % 0x100 = get_or-append-add p b 2 0 in
    let e₃ : get_or (p ++ b) (length p + 3) 0 ≡ n / 0x100_0000 % 0x100 = get_or-append-add p b 3 0 in
    ap₂ ◌+◌ (ap₂ ◌+◌ (ap₂ ◌+◌ e₀ (ap (λ (b : ℕ). b * 0x100) e₁)) (ap (λ (b : ℕ). b * 0x1_0000) e₂)) (ap (λ (b : ℕ). b * 0x100_0000) e₃) ∙ of_bytes n h

pub words_there : (p l q : List ℕ) → Below32 l → words_at (p ++ (little_endian l ++ q)) (length p) (length l) ≡ l
unfolding words_at little_endian
words_there p [] q b = refl
words_there p (n ∷ l) q (Below32.next h b) =
    let bs = (n % 0x100) ∷ (n / 0x100 % 0x100) ∷ (n / 0x1_0000 % 0x100) ∷ (n / 0x100_0000 % 0x100) ∷ [] in
    let e : p ++ (bs ++ (little_endian l ++ q)) ≡ (p ++ bs) ++ (little_endian l ++ q) = sym (append_assoc p bs (little_endian l ++ q)) in
    let m : length p + 4 ≡ length (p ++ bs) = sym (length-append p bs) in
    ap₂ ◌∷◌ (word_there p n (little_endian l ++ q) h) (ap₂ (λ (s : List ℕ) (i : ℕ). words_at s i (length l)) e m ∙ words_there (p ++ bs) l q b)

two_words : (s : List ℕ) (i : ℕ) {j k : ℕ} → words_at s i 2 ≡ j ∷ k ∷ [] → (word_at s i ≡ j) × (word_at s (i + 4) ≡ k)
unfolding words_at
two_words s i {j} {k} e =
    let a : word_at s i ≡ j = cc in
    let b : word_at s (i + 4) ≡ k = cc in
    (a, b)

-- ---- the stars in rows

-- those of model m
unfoldable stars_in : ℕ → List ℕ → List ℕ
stars_in m [] = []
stars_in m (a ∷ []) = []
stars_in m (a ∷ b ∷ []) = []
stars_in m (a ∷ b ∷ c ∷ l) = cond (eqb a m) (b ∷ stars_in m l) (stars_in m l)

offsets_are : (s : List ℕ) (m i n : ℕ) → offsets_at s m i n ≡ stars_in m (words_at s i (3 * n))
unfolding offsets_at stars_in words_at
offsets_are s m i zero = refl
offsets_are s m i (suc n) =
    let e : 3 * suc n ≡ suc (suc (suc (3 * n))) = omega arith in
    let j : i + 12 ≡ i + 4 + 4 + 4 = omega arith in
    let r : offsets_at s m (i + 12) n ≡ stars_in m (words_at s (i + 4 + 4 + 4) (3 * n)) = offsets_are s m (i + 12) n ∙ ap (λ (k : ℕ). stars_in m (words_at s k (3 * n))) j in
    ap (λ (l : List ℕ). cond (eqb (word_at s i) m) (word_at s (i + 4) ∷ l) l) r ∙ sym (ap (λ (k : ℕ). stars_in m (words_at s i k)) e)

stars_own : {m : ℕ} {ts : List Tree} {us : List TreePlace} {ns : List ℕ} → TrailerRows m ts us ns → (more : List ℕ) → stars_in m (ns ++ more) ≡ map star_of us ++ stars_in m more
unfolding stars_in map
stars_own TrailerRows.none more = refl
stars_own {m} (TrailerRows.more {u = u} {us = us} {ns = ns} l r) more =
    ap (λ (b : Bool). cond b (u.star ∷ stars_in m (ns ++ more)) (stars_in m (ns ++ more))) (eq-eqb m m refl) ∙ ap (λ (l : List ℕ). u.star ∷ l) (stars_own r more)

stars_other : {k m : ℕ} {ts : List Tree} {us : List TreePlace} {ns : List ℕ} → ¬ (k ≡ m) → TrailerRows k ts us ns → (more : List ℕ) → stars_in m (ns ++ more) ≡ stars_in m more
unfolding stars_in
stars_other d TrailerRows.none more = refl
stars_other {k} {m} d (TrailerRows.more {u = u} {ns = ns} l r) more =
    ap (λ (b : Bool). cond b (u.star ∷ stars_in m (ns ++ more)) (stars_in m (ns ++ more))) (ne_eqb k m d) ∙ stars_other d r more

-- ---- models by rising number

data Rising : List Model → Type 0 where
  none : Rising []
  more : {m : Model} {ms : List Model} → All (λ k. model_number m < model_number k) ms → Rising ms → Rising (m ∷ ms)

all_nth : {A : Type 0} {P : A → Type 0} {l : List A} {k : ℕ} {x : A} → All P l → Nth l k x → P x
all_nth (All.next p a) here = p
all_nth (All.next p a) (there h) = all_nth a h
all_nth {A = A} {P = P} {k = k} Rattle.written.specs.Record.end x6 = elim x6 [ ]

all_to : {A : Type 0} {P Q : A → Type 0} → ((x : A) → P x → Q x) → {l : List A} → All P l → All Q l
all_to f All.end = All.end
all_to f (All.next {a = x} p a) = All.next (f x p) (all_to f a)

-- numbers above one are above a lesser one
lower : {a b : ℕ} → a ≤ b → {ms : List Model} → All (λ m. b < model_number m) ms → All (λ m. a < model_number m) ms
lower {a} {b} h l = all_to (λ x (p : b < model_number x). under (model_number x) p) l
  where
    under : (n : ℕ) → b < n → a < n
    under n p = omega arith

module _ {s : List ℕ} {h : Header} where
  rising : {i : ℕ} {xs : List Span} {ms : List Model} → StreamModels s h i xs ms → All (λ m. 2 * i < model_number m) ms × Rising ms
  rising StreamModels.end = (All.end, none)
  rising {i} (StreamModels.both {ms = ms} n u r) =
      let w = rising r in
      let up : All (λ m. 2 * i + 2 < model_number m) ms = lower {a = 2 * i + 2} {b = 2 * suc i} (omega arith) w.0 in
      let p : 2 * i < model_number (stream i) = omega arith in
      let q : 2 * i < model_number (gv i) = omega arith in
      let z : model_number (stream i) < model_number (gv i) = omega arith in (
        All.next {a = stream i} p (All.next {a = gv i} q (lower {a = 2 * i} {b = 2 * i + 2} (omega arith) up)),
        more {m = stream i} (All.next {a = gv i} z (lower {a = 2 * i + 1} {b = 2 * i + 2} (omega arith) up)) (more {m = gv i} up w.1),
      )
  rising {i} (StreamModels.alone {ms = ms} n u r) =
      let w = rising r in
      let up : All (λ m. 2 * i + 1 < model_number m) ms = lower {a = 2 * i + 1} {b = 2 * suc i} (omega arith) w.0 in
      let p : 2 * i < model_number (stream i) = omega arith in
      (All.next {a = stream i} p (lower {a = 2 * i} {b = 2 * i + 1} (omega arith) up), more {m = stream i} up w.1)
  rising {i} (StreamModels.unnamed {ms = ms} n r) =
      let w = rising r in
      let up : All (λ m. 2 * i + 1 < model_number m) ms = lower {a = 2 * i + 1} {b = 2 * suc i} (omega arith) w.0 in
      let p : 2 * i < model_number (stream i) = omega arith in
      (All.next {a = stream i} p (lower {a = 2 * i} {b = 2 * i + 1} (omega arith) up), more {m = stream i} up w.1)

  models_rise : {ms : List Model} → Models s h ms → Rising ms
  models_rise (Models.voice m) = let w = rising m in more {m = duration} (lower {a = 0} {b = 2 * 0} (omega arith) w.0) w.1

  -- ---- a model that has a place is one of them

  at_stream : {k a : ℕ} {xs : List Span} {ms : List Model} {x : Span} → StreamModels s h k xs ms → Nth xs a x → (j : ℕ) × Nth ms j (stream (k + a))
  at_stream {k} (StreamModels.both {ms = ms} n u r) here = (0, subst (λ (i : ℕ). Nth (stream k ∷ gv k ∷ ms) 0 (stream i)) (omega arith) here)
  at_stream {k} (StreamModels.alone {ms = ms} n u r) here = (0, subst (λ (i : ℕ). Nth (stream k ∷ ms) 0 (stream i)) (omega arith) here)
  at_stream {k} (StreamModels.unnamed {ms = ms} n r) here = (0, subst (λ (i : ℕ). Nth (stream k ∷ ms) 0 (stream i)) (omega arith) here)
  at_stream {k = k} {a = suc a} (StreamModels.both {ms = ms} n u r) (there t) = let w = at_stream r t in (suc (suc w.0), subst (λ (i : ℕ). Nth (stream k ∷ gv k ∷ ms) (suc (suc w.0)) (stream i)) (omega arith) (there (there w.1)))
  at_stream {k = k} {a = suc a} (StreamModels.alone {ms = ms} n u r) (there t) = let w = at_stream r t in (suc w.0, subst (λ (i : ℕ). Nth (stream k ∷ ms) (suc w.0) (stream i)) (omega arith) (there w.1))
  at_stream {k = k} {a = suc a} (StreamModels.unnamed {ms = ms} n r) (there t) = let w = at_stream r t in (suc w.0, subst (λ (i : ℕ). Nth (stream k ∷ ms) (suc w.0) (stream i)) (omega arith) (there w.1))
  at_stream {a = a} (models.end {i = i}) x10 = elim x10 [ ]

  at_gv : {k a : ℕ} {xs : List Span} {ms : List Model} {x : Span} → StreamModels s h k xs ms → Nth xs a x → {d : _} → models.LastNamed models.stream_name s (bytes_of s x) h.streams d → d.use_gv ≡ true → (j : ℕ) × Nth ms j (gv (k + a))
  at_gv {k} (StreamModels.both {ms = ms} n u r) here l g = (1, subst (λ (i : ℕ). Nth (stream k ∷ gv k ∷ ms) 1 (gv i)) (omega arith) (there here))
  at_gv (StreamModels.alone n u r) here l g = absurd (true≢false (sym g ∙ ap (λ d. d.use_gv) (named_one l n) ∙ u))
  at_gv (StreamModels.unnamed n r) here l g = absurd (named_never l n)
  at_gv {k = k} {a = suc a} (StreamModels.both {ms = ms} n u r) (there t) l g = let w = at_gv r t l g in (suc (suc w.0), subst (λ (i : ℕ). Nth (stream k ∷ gv k ∷ ms) (suc (suc w.0)) (gv i)) (omega arith) (there (there w.1)))
  at_gv {k = k} {a = suc a} (StreamModels.alone {ms = ms} n u r) (there t) l g = let w = at_gv r t l g in (suc w.0, subst (λ (i : ℕ). Nth (stream k ∷ ms) (suc w.0) (gv i)) (omega arith) (there w.1))
  at_gv {k = k} {a = suc a} (StreamModels.unnamed {ms = ms} n r) (there t) l g = let w = at_gv r t l g in (suc w.0, subst (λ (i : ℕ). Nth (stream k ∷ ms) (suc w.0) (gv i)) (omega arith) (there w.1))
  at_gv {a = a} (models.end {i = i}) x18 {d = d} l g = elim x18 [ ]

  member : {m : Model} {ms : List Model} {x y : _} {w : ℕ} → Placed s h m x y w → Models s h ms → (j : ℕ) × Nth ms j m
  member of_duration (Models.voice v) = (0, here)
  member (of_stream {i = i} e) (Models.voice {ms = ms} v) = let w = at_stream v e.named in (suc w.0, there (let z : 0 + i ≡ i = omega arith in subst (λ (k : ℕ). Nth ms w.0 (stream k)) z w.1))
  member (of_gv {i = i} e u t b) (Models.voice {ms = ms} v) = let w = at_gv v e.named e.in_streams u in (suc w.0, there (let z : 0 + i ≡ i = omega arith in subst (λ (k : ℕ). Nth ms w.0 (gv k)) z w.1))

  -- ---- the rows of one model

  none_below : {n : ℕ} {ms : List Model} {rows : List ℕ} → All (λ m. n < model_number m) ms → VoiceRows s h ms rows → stars_in n rows ≡ []
  unfolding stars_in
  none_below All.end VoiceRows.end = refl
  none_below {n} (All.next {a = m} p a) (VoiceRows.next {more = rest} t r v) = stars_other (λ (e : model_number m ≡ n). omega arith) r rest ∙ none_below a v

  in_rows : {ms : List Model} {rows : List ℕ} {j : ℕ} {m : Model} {t : Text} {l : Layout} → Rising ms → VoiceRows s h ms rows → Nth ms j m → TextOf s h m t l → stars_in (model_number m) rows ≡ map star_of l.trees
  in_rows {m = m} {l = l} (more a w) (VoiceRows.next {l = k} {more = rest} u r v) here x =
      stars_own r rest ∙ ap (λ (z : List ℕ). map star_of k.trees ++ z) (none_below a v) ∙ append-nil (map star_of k.trees) ∙ ap (λ (z : Layout). map star_of z.trees) (text_one u x).1
  in_rows {m = m} (more {m = n} a w) (VoiceRows.next {more = rest} u r v) (there h) x =
      let b : model_number n < model_number m = all_nth a h in
      stars_other (λ (e : model_number n ≡ model_number m). omega arith) r rest ∙ in_rows w v h x
  in_rows {rows = rows} {j = j} {m = m} {t = t} {l = l} none _ x9 x = elim x9 [ ]

-- ---- at the file's end

below_front : (a b : List ℕ) → Below32 (a ++ b) → Below32 a × Below32 b
below_front [] b h = (Below32.end, h)
below_front (x ∷ a) b (Below32.next p h) = let r = below_front a b h in (Below32.next p r.0, r.1)

pub reaches : {file rows : List ℕ} {begin : ℕ} {h : Header} {ms : List Model} {m : Model} {t : Text} {l : Layout} → EndsIn file rows begin → VoiceRows file h ms rows → Models file h ms → TextOf file h m t l
    → (c : Code) → 12 ≤ c.data_len → Reaching file c (model_number m) l
reaches {file} {rows} {begin} {h} {ms} {m} {l = l} e v a x c long =
    record { begin = begin; count = n; rows = trail_rows file c.data_len long at_end (sym first) (sym second) (omega (arith, e.begins)); stars = offsets_are file (model_number m) begin n ∙ ap (stars_in (model_number m)) front ∙ in_rows (models_rise a) v (member x.placed a).1 x }
  where
    T : Trailer e.before rows e.trailer
    T = e.says

    n : ℕ
    n = T.count

    P : List ℕ
    P = e.before

    last : ℕ
    last = sum32 (P ++ unsummed P rows n)

    both : Below32 rows × Below32 (n ∷ length P ∷ [])
    both = below_front rows (n ∷ length P ∷ []) T.below

    tail : List ℕ
    tail = little_endian (n ∷ length P ∷ []) ++ little_endian (last ∷ [])

    whole : file ≡ P ++ (little_endian rows ++ tail)
    whole =
        e.whole ∙ ap (λ (z : List ℕ). P ++ z) (T.whole ∙ ap (λ (z : List ℕ). z ++ little_endian (last ∷ [])) (little-append rows (n ∷ length P ∷ [])) ∙ append_assoc (little_endian rows) (little_endian (n ∷ length P ∷ [])) (little_endian (last ∷ [])))

    -- the rows
    front : words_at file begin (3 * n) ≡ rows
    front =
        ap₂ (λ (z : List ℕ) (i : ℕ). words_at z i (3 * n)) whole e.begins ∙ ap (words_at (P ++ (little_endian rows ++ tail)) (length P)) (sym T.threes) ∙ words_there P rows tail both.0

    -- the two-words file E numbers behind them
    E : ℕ
    E = length P + 12 * n

    long_front : length (P ++ little_endian rows) ≡ E
    long_front = omega (arith, length-append P (little_endian rows), little-length rows, T.threes)

    numbers : words_at file E 2 ≡ n ∷ length P ∷ []
    numbers =
        ap₂ (λ (z : List ℕ) (i : ℕ). words_at z i 2) (whole ∙ sym (append_assoc P (little_endian rows) tail)) (sym long_front)
        ∙ words_there (P ++ little_endian rows) (n ∷ length P ∷ []) (little_endian (last ∷ [])) both.1

    at_end : E ≡ length file - 12
    at_end = omega (arith, ap length e.whole, length-append P e.trailer, trailer_size T)

    first : word_at file E ≡ n
    first = (two_words file E numbers).0

    second : word_at file (E + 4) ≡ begin
    second = (two_words file E numbers).1 ∙ sym e.begins
