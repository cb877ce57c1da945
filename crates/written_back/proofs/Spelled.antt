-- What is spelled (specs/Writing) says what it was spelled of, wherever it stands: the grammar's half of 02, Wish 6. A spelling stands in a text as a `Word`; words are split where
-- their parts meet, and each part, with the byte behind it, is what the grammar asks for.
use mathlib.Core.Path.{◌≡◌, refl, sym, ap, ap₂, ◌∙◌, subst}
use mathlib.Core.Bool.{Bool, true, false, not, cond, ◌&&◌, ◌||◌}
use mathlib.Core.List.{List, [], ◌∷◌, ◌++◌, map, flatten, append_assoc, append-nil}
use Prim.Native.Nat.{ℕ, zero, suc, ◌+◌, ◌-◌, ◌*◌, ◌/◌, ◌%◌, ◌^◌, ◌≤◌, ◌<◌}
use native.Mathlib.Decide.{dec_lt}
use native.Mathlib.Omega.{arith}
use borrow.Author.Tests.{lt-ltb, le-ltb, ltb-true, le-leb, lt-leb, leb-true, ne_eqb}
use lib.Dec.{ltb, leb, eqb}
use lib.IntN.{ℤ, pos, negsuc}
use lib.ListN.{length, get_or, take, drop, length-append}
use lib.Seq.{get_or-append_seam, drop-cons}
use Rattle.written.specs.Bytes.{digit, in_pattern, in_word, blank, space_or_tab, in_name, letter, one_of, mark, wildcard, Span, spanning, byte_at, between, decimal, brace, unbrace, unbracket, quote, comma, newline}
use Rattle.written.specs.Said.{Ref, node, pdf, Line, Body, lone, braces, Tree, Question, Text, QuestionPlace, TreePlace, Layout}
use Rattle.written.specs.TreeText.{Parted, Word, Byte, Run, Run₁, Parting, LineParting, Comma, Digits, Number, Bare, Reference, PatternAt, QuestionAt, LineAt, BodyAt, TreeAt, TreesAt, Says, star}
use Rattle.written.specs.Writing.{figures_in, figures, spelled_number, spelled_ref, spelled_line, spelled_body, spelled_tree, spelled_patterns, spelled_question, spelled}
use Rattle.written.proofs.Once.{number_not, word_first}

pub past_end : (s : List ℕ) (i : ℕ) → length s ≤ i → byte_at s i ≡ 256
unfolding byte_at
past_end s i h = rw (le-ltb i (length s) h)

-- ---- words

-- a text that ends in w has w as a word up to its end
pub word_ends : (s before w : List ℕ) → s ≡ before ++ w → Word s w (length before) (length s)
unfolding byte_at
word_ends s before [] e = subst (λ (k : ℕ). Word s [] (length before) k) (sym (ap length (e ∙ append-nil before))) Word.end
word_ends s before (b ∷ w) e =
    Word.byte at (subst (λ (k : ℕ). Word s w k (length s)) (length-append before (b ∷ []) ∙ omega arith) (word_ends s (before ++ (b ∷ [])) w (e ∙ sym (append_assoc before (b ∷ []) w))))
  where
    long : length before < length s
    long = let u = ap length e ∙ length-append before (b ∷ w) in omega arith

    at : byte_at s (length before) ≡ b
    at = rw (lt-ltb (length before) (length s) long) (ap (λ (l : List ℕ). get_or l (length before) 0) e ∙ get_or-append_seam before b w 0)

module _ {s : List ℕ} where
  -- a word of two parts
  pub parts : (u : List ℕ) {v : List ℕ} {i k : ℕ} → Word s (u ++ v) i k → (j : ℕ) × Word s u i j × Word s v j k
  parts [] {v} {i} w = (i, Word.end, w)
  parts (b ∷ u) (Word.byte e w) = let r = parts u w in (r.0, Word.byte e r.1, r.2)

-- ---- runs

-- every byte of w passes p
pub data Every (p : ℕ → Bool) : List ℕ → Type 0 where
  none : Every p []
  more : {b : ℕ} {w : List ℕ} → p b ≡ true → Every p w → Every p (b ∷ w)

pub every_append : {p : ℕ → Bool} (u : List ℕ) {v : List ℕ} → Every p u → Every p v → Every p (u ++ v)
every_append [] e f = f
every_append (b ∷ u) (Every.more h e) f = Every.more h (every_append u e f)

module _ {s : List ℕ} where
  pub word_run : {p : ℕ → Bool} {w : List ℕ} {i j : ℕ} → Word s w i j → Every p w → p (byte_at s j) ≡ false → Run s p i j
  word_run Word.end Every.none n = Run.stop n
  word_run {p} (Word.byte e w) (Every.more h f) n = Run.more (ap p e ∙ h) (word_run w f n)

  pub word_run₁ : {p : ℕ → Bool} {w : List ℕ} {i j : ℕ} → Word s w i j → Every p w → 0 < length w → p (byte_at s j) ≡ false → Run₁ s p i j
  word_run₁ Word.end Every.none l n = absurd (omega arith)
  word_run₁ {p} (Word.byte e w) (Every.more h f) l n = Run₁.some (ap p e ∙ h) (word_run w f n)

  -- where a word ends
  pub word_long : {w : List ℕ} {i j : ℕ} → Word s w i j → j ≡ i + length w
  word_long Word.end = omega arith
  word_long (Word.byte e w) = omega (arith, word_long w)

-- the byte at a place stands there, where it is a byte
pub here_inside : (s : List ℕ) (i b : ℕ) → byte_at s i ≡ b → b < 256 → (i < length s) × (get_or s i 0 ≡ b)
unfolding byte_at
here_inside s i b e l = go (ltb i (length s)) refl e
  where
    go : (c : Bool) → ltb i (length s) ≡ c → cond c (get_or s i 0) 256 ≡ b → (i < length s) × (get_or s i 0 ≡ b)
    go true t e = (ltb-true i (length s) t, e)
    go false t e = absurd (omega arith)

-- every byte is one
abbrev pub Bytes : List ℕ → Type 0
Bytes w = Every (λ b. ltb b 256) w

-- the bytes of a word, taken out of the text
pub word_between : {s w : List ℕ} {i j : ℕ} → Word s w i j → Bytes w → between s i j ≡ w
unfolding between
word_between {s} {w} {i} {j} x b = go x b (word_long x)
  where
    go : {w : List ℕ} {i j : ℕ} → Word s w i j → Bytes w → j ≡ i + length w → take (j - i) (drop i s) ≡ w
    go {i = i} Word.end Every.none e = let u : i - i ≡ 0 = omega arith in rw u
    go {w = w} {i = i} {j = j} (Word.byte {b = c} {w = v} q x) (Every.more l b) e =
        let h = here_inside s i c q (ltb-true c 256 l) in
        let u : j - i ≡ suc (j - suc i) = omega arith in
        ap (λ (n : ℕ). take n (drop i s)) u ∙ ap (take (suc (j - suc i))) (drop-cons s i 0 h.0) ∙ ap₂ (λ (a : ℕ) (t : List ℕ). a ∷ t) h.1 (go x b (word_long x))

-- a class of bytes has bytes alone
pub bytes_of : {p : ℕ → Bool} → ((b : ℕ) → p b ≡ true → b < 256) → {w : List ℕ} → Every p w → Bytes w
bytes_of f Every.none = Every.none
bytes_of f (Every.more {b = b} h e) = Every.more (lt-ltb b 256 (f b h)) (bytes_of f e)

-- ---- digits

-- one more than the largest number of k digits
unfoldable tens : ℕ → ℕ
tens zero = 1
tens (suc k) = 10 * tens k

digit_of : (d : ℕ) → d < 10 → digit (48 + d) ≡ true
unfolding digit
digit_of d h = rw (le-leb 48 (48 + d) (omega arith), le-leb (48 + d) 57 (omega arith))

digit_small : (b : ℕ) → digit b ≡ true → b < 256
unfolding digit
digit_small b e = go (leb b 57) refl e
  where
    go : (c : Bool) → leb b 57 ≡ c → (leb 48 b && c) ≡ true → b < 256
    go true t e = let h = leb-true b 57 t in omega arith
    go false t e = absurd (no (leb 48 b) e)
      where
        no : (a : Bool) → (a && false) ≡ true → ⊥
        no true e = let u : ◌≡◌ {A = ℕ} 0 1 = cc in omega arith
        no false e = let u : ◌≡◌ {A = ℕ} 0 1 = cc in omega arith

figures_every : (f n : ℕ) → Every digit (figures_in f n)
unfolding figures_in
figures_every zero n = Every.none
figures_every (suc f) n = go (ltb n 10) refl (figures_every f (n / 10))
  where
    go : (c : Bool) → ltb n 10 ≡ c → Every digit (figures_in f (n / 10)) → Every digit (cond c ((48 + n) ∷ []) (figures_in f (n / 10) ++ ((48 + n % 10) ∷ [])))
    go true t e = Every.more (digit_of n (ltb-true n 10 t)) Every.none
    go false t e = every_append (figures_in f (n / 10)) e (Every.more (digit_of (n % 10) (omega arith)) Every.none)

figures_some : (f n : ℕ) → 0 < length (figures_in (suc f) n)
unfolding figures_in
figures_some f n = go (ltb n 10)
  where
    go : (c : Bool) → 0 < length (cond c ((48 + n) ∷ []) (figures_in f (n / 10) ++ ((48 + n % 10) ∷ [])))
    go true = omega arith
    go false = omega (arith, length-append (figures_in f (n / 10)) ((48 + n % 10) ∷ []))

decimal-append : (m : ℕ) (u : List ℕ) (b : ℕ) → decimal m (u ++ (b ∷ [])) ≡ decimal m u * 10 + (b - 48)
unfolding decimal
decimal-append m [] b = refl
decimal-append m (c ∷ u) b = decimal-append (m * 10 + (c - 48)) u b

figures-decimal : (f n : ℕ) → n < tens (suc f) → decimal 0 (figures_in (suc f) n) ≡ n
unfolding figures_in tens decimal
figures-decimal zero n l = rw (lt-ltb n 10 (omega arith)) (omega arith)
figures-decimal (suc f) n l = go (ltb n 10) (λ h. figures-decimal f (n / 10) h)
  where
    go : (c : Bool) → (n / 10 < 10 * tens f → decimal 0 (figures_in (suc f) (n / 10)) ≡ n / 10)
        → decimal 0 (cond c ((48 + n) ∷ []) (figures_in (suc f) (n / 10) ++ ((48 + n % 10) ∷ []))) ≡ n
    go true e = omega arith
    go false e = let q = e (omega arith) in decimal-append 0 (figures_in (suc f) (n / 10)) (48 + n % 10) ∙ omega arith

-- what fits signed 64 bits
abbrev pub Fits : ℤ → Type 0
Fits (pos n) = n < 2 ^ 63
Fits (negsuc n) = suc n ≤ 2 ^ 63

few : (n : ℕ) → n ≤ 2 ^ 63 → n < tens 20
unfolding tens
few n h = omega arith

every_so : {p q : ℕ → Bool} → ((b : ℕ) → p b ≡ true → q b ≡ true) → {w : List ℕ} → Every p w → Every q w
every_so f Every.none = Every.none
every_so f (Every.more {b = b} h e) = Every.more (f b h) (every_so f e)

digit_in_word : (b : ℕ) → digit b ≡ true → in_word b ≡ true
unfolding in_word
digit_in_word b e = go (letter b) e
  where
    go : (c : Bool) → digit b ≡ true → (c || digit b || eqb b 95) ≡ true
    go true e = refl
    go false e = rw e

module _ {s : List ℕ} where
  digits_word : (n : ℕ) → n ≤ 2 ^ 63 → {i j : ℕ} → Word s (figures n) i j → digit (byte_at s j) ≡ false → Digits s i j n
  digits_word n l {i} {j} w e =
      subst (λ (m : ℕ). Digits s i j m) (ap (decimal 0) (word_between w (bytes_of digit_small (figures_every 20 n))) ∙ figures-decimal 19 n (few n l))
      (Digits.digits (word_run₁ w (figures_every 20 n) (figures_some 19 n) e))

  pub number_word : (x : ℤ) → Fits x → {i j : ℕ} → Word s (spelled_number x) i j → digit (byte_at s j) ≡ false → Number s i j x
  number_word (pos n) l w e = Number.plus (digits_word n (omega arith) w e) l
  number_word (negsuc n) l (Word.byte q w) e = Number.minus (Word.byte q Word.end) (digits_word (suc n) l w e) l

-- a PDF number below 2^63, an id of 64 bits
abbrev pub RefFits : Ref → Type 0
RefFits (node x) = Fits x
RefFits (pdf n) = n < 2 ^ 63

module _ {s : List ℕ} where
  pub ref_word : (r : Ref) → RefFits r → {i j : ℕ} → Word s (spelled_ref r) i j → digit (byte_at s j) ≡ false → Reference s i j r
  unfolding digit in_word
  ref_word (node x) l w e = Reference.bare (Bare.number (number_word x l w e))
  ref_word (pdf n) l {i} {j} (Word.byte a (Word.byte b (Word.byte c w))) e =
      let r = parts (figures n) w in
      let shut = word_first r.2 in
      Reference.quoted (Word.byte a Word.end)
      (Bare.word {k = suc (suc i)} (λ k x m. number_not 112 refl (λ z. omega arith) m refl b)
      (Run₁.some (ap in_word b) (Run.more (ap in_word c) (word_run r.1 (every_so digit_in_word (figures_every 20 n)) (ap in_word shut))))
      (omega arith) (ap digit c) (digits_word n (omega arith) r.1 (ap digit shut)) l)
      r.2

-- ---- lines

name_unblank : (b : ℕ) → in_name b ≡ true → blank b ≡ false
unfolding in_name blank
name_unblank b e = go (blank b) refl
  where
    go : (c : Bool) → blank b ≡ c → c ≡ false
    go false t = refl
    go true t = absurd (no (leb b 127) (ap (λ (c : Bool). leb b 127 && not c) (sym t) ∙ e))
      where
        no : (a : Bool) → (a && not true) ≡ true → ⊥
        no true e = let u : ◌≡◌ {A = ℕ} 0 1 = cc in omega arith
        no false e = let u : ◌≡◌ {A = ℕ} 0 1 = cc in omega arith

name_small : (b : ℕ) → in_name b ≡ true → b < 256
unfolding in_name
name_small b e = go (leb b 127) refl e
  where
    go : (c : Bool) → leb b 127 ≡ c → (c && not (blank b)) ≡ true → b < 256
    go true t e = let h = leb-true b 127 t in omega arith
    go false t e = let u : ◌≡◌ {A = ℕ} 0 1 = cc in absurd (omega arith)

digit_unblank : (b : ℕ) → digit b ≡ true → blank b ≡ false
unfolding digit blank
digit_unblank b e = go (leb 48 b) refl e
  where
    go : (c : Bool) → leb 48 b ≡ c → (c && leb b 57) ≡ true → (eqb b 32 || eqb b 10) ≡ false
    go true t e = let h = leb-true 48 b t in rw (ne_eqb b 32 (λ q. omega arith), ne_eqb b 10 (λ q. omega arith))
    go false t e = let u : ◌≡◌ {A = ℕ} 0 1 = cc in absurd (omega arith)

module _ {s : List ℕ} where
  first_of : {p : ℕ → Bool} {w : List ℕ} {i j : ℕ} → Word s w i j → Every p w → 0 < length w → p (byte_at s i) ≡ true
  first_of Word.end Every.none l = absurd (omega arith)
  first_of {p} (Word.byte e w) (Every.more h f) l = ap p e ∙ h

  -- the first byte of a number or a reference is no blank, no space and no tab
  number_first : (x : ℤ) {i j : ℕ} → Word s (spelled_number x) i j → blank (byte_at s i) ≡ false
  unfolding blank
  number_first (pos n) {i} w = digit_unblank (byte_at s i) (first_of w (figures_every 20 n) (figures_some 19 n))
  number_first (negsuc n) (Word.byte q w) = ap blank q

  ref_first : (r : Ref) {i j : ℕ} → Word s (spelled_ref r) i j → blank (byte_at s i) ≡ false
  unfolding blank
  ref_first (node x) w = number_first x w
  ref_first (pdf n) (Word.byte q w) = ap blank q

pub record LineFits (l : Line) : Type 0 where
  pub id : Fits l.id
  pub question : Every in_name l.question
  pub named : 0 < length l.question
  pub no_ref : RefFits l.no
  pub yes_ref : RefFits l.yes

module _ {s : List ℕ} where
  pub line_word : (l : Line) → LineFits l → {i k : ℕ} → Word s (spelled_line l) i k → (j : ℕ) × (w : Span) × LineAt s i j l w × Byte s newline j k
  unfolding spelled_line digit in_name blank
  line_word l f {i} {k} w = go_id (parts (spelled_number l.id) w)
    where
      go_id : (j : ℕ) × Word s (spelled_number l.id) i j × Word s (32 ∷ (l.question ++ (32 ∷ (spelled_ref l.no ++ (32 ∷ (spelled_ref l.yes ++ (newline ∷ []))))))) j k
          → (j : ℕ) × (w : Span) × LineAt s i j l w × Byte s newline j k
      go_id (a, wid, Word.byte q₁ w₁) = go_name (parts l.question w₁)
        where
          go_name : (c : ℕ) × Word s l.question (suc a) c × Word s (32 ∷ (spelled_ref l.no ++ (32 ∷ (spelled_ref l.yes ++ (newline ∷ []))))) c k
              → (j : ℕ) × (w : Span) × LineAt s i j l w × Byte s newline j k
          go_name (c, wname, Word.byte q₂ w₂) = go_no (parts (spelled_ref l.no) w₂)
            where
              go_no : (e : ℕ) × Word s (spelled_ref l.no) (suc c) e × Word s (32 ∷ (spelled_ref l.yes ++ (newline ∷ []))) e k
                  → (j : ℕ) × (w : Span) × LineAt s i j l w × Byte s newline j k
              go_no (e, wno, Word.byte q₃ w₃) = go_yes (parts (spelled_ref l.yes) w₃)
                where
                  go_yes : (j : ℕ) × Word s (spelled_ref l.yes) (suc e) j × Word s (newline ∷ []) j k → (j : ℕ) × (w : Span) × LineAt s i j l w × Byte s newline j k
                  go_yes (j, wyes, wend) =
                      let named = word_between wname (bytes_of name_small f.question) in (
                        j,
                        spanning (suc a) c,
                        subst (λ (q : List ℕ). LineAt s i j (record { id = l.id; question = q; no = l.no; yes = l.yes }) (spanning (suc a) c)) named
                            (LineAt.line (number_word l.id f.id wid (ap digit q₁))
                            (Run₁.some (ap blank q₁) (Run.stop (name_unblank (byte_at s (suc a)) (first_of wname f.question f.named))))
                            (word_run₁ wname f.question f.named (ap in_name q₂))
                            (Run₁.some (ap blank q₂) (Run.stop (ref_first l.no wno)))
                            (ref_word l.no f.no_ref wno (ap digit q₃))
                            (Run₁.some (ap blank q₃) (Run.stop (ref_first l.yes wyes)))
                            (ref_word l.yes f.yes_ref wyes (ap digit (word_first wend)))),
                        wend,
                      )

digit_unspace : (b : ℕ) → digit b ≡ true → space_or_tab b ≡ false
unfolding digit space_or_tab
digit_unspace b e = go (leb 48 b) refl e
  where
    go : (c : Bool) → leb 48 b ≡ c → (c && leb b 57) ≡ true → (eqb b 32 || eqb b 9) ≡ false
    go true t e = let h = leb-true 48 b t in rw (ne_eqb b 32 (λ q. omega arith), ne_eqb b 9 (λ q. omega arith))
    go false t e = let u : ◌≡◌ {A = ℕ} 0 1 = cc in absurd (omega arith)

-- each of a list
pub data All {A : Type 0} (P : A → Type 0) : List A → Type 0 where
  none : All P []
  more : {a : A} {l : List A} → P a → All P l → All P (a ∷ l)

module _ {s : List ℕ} where
  number_unspaced : (x : ℤ) {i j : ℕ} → Word s (spelled_number x) i j → space_or_tab (byte_at s i) ≡ false
  unfolding space_or_tab
  number_unspaced (pos n) {i} w = digit_unspace (byte_at s i) (first_of w (figures_every 20 n) (figures_some 19 n))
  number_unspaced (negsuc n) (Word.byte q w) = ap space_or_tab q

  line_first : (l : Line) (v : List ℕ) {i k : ℕ} → Word s (spelled_line l ++ v) i k → (blank (byte_at s i) ≡ false) × (space_or_tab (byte_at s i) ≡ false)
  unfolding spelled_line
  line_first l v w = let r = parts (spelled_line l) w in let q = parts (spelled_number l.id) r.1 in (number_first l.id q.1, number_unspaced l.id q.1)

  pub lines_word : (l : Line) (ls : List Line) → All LineFits (l ∷ ls) → {i k : ℕ} → Word s (flatten (map spelled_line (l ∷ ls))) i k
      → (j : ℕ) × (ws : List Span) × Parted (LineParting s) (LineAt s) i j (l ∷ ls) ws × Byte s newline j k
  unfolding flatten blank space_or_tab
  lines_word l [] (All.more f All.none) {i} {k} w = go (parts (spelled_line l) w)
    where
      go : (b : ℕ) × Word s (spelled_line l) i b × Word s [] b k → (j : ℕ) × (ws : List Span) × Parted (LineParting s) (LineAt s) i j (l ∷ []) ws × Byte s newline j k
      go (b, x, Word.end) = let r = line_word l f x in (r.0, r.1 ∷ [], Parted.last r.2, r.3)
  lines_word l (m ∷ ms) (All.more f fs) {i} {k} w = go (parts (spelled_line l) w) (λ b v. lines_word m ms fs v)
    where
      go : (b : ℕ) × Word s (spelled_line l) i b × Word s (flatten (map spelled_line (m ∷ ms))) b k
          → ((b : ℕ) → Word s (flatten (map spelled_line (m ∷ ms))) b k → (j : ℕ) × (ws : List Span) × Parted (LineParting s) (LineAt s) b j (m ∷ ms) ws × Byte s newline j k)
          → (j : ℕ) × (ws : List Span) × Parted (LineParting s) (LineAt s) i j (l ∷ (m ∷ ms)) ws × Byte s newline j k
      go (b, x, y) rest =
          let r = line_word l f x in
          let t = rest b y in
          let h = line_first m (flatten (map spelled_line ms)) y in (
            t.0,
            r.1 ∷ t.1,
            Parted.next r.2 (LineParting.parting (Run.stop (ap space_or_tab (word_first r.3))) r.3 (Run.stop h.1) (Run.stop h.0)) t.2,
            t.3,
          )

-- ---- trees

-- a newline, and no blank behind it
newline_then : {s : List ℕ} {c d : ℕ} → Byte s newline c d → blank (byte_at s d) ≡ false → Run s blank c d
unfolding blank
newline_then (Word.byte q Word.end) n = Run.more (ap blank q) (Run.stop n)

abbrev pub BodyFits : Body → Type 0
BodyFits (lone r) = RefFits r
BodyFits (braces ls) = All LineFits ls

pub record TreeFits (t : Tree) : Type 0 where
  pub state : Fits t.state
  pub body : BodyFits t.body

module _ {s : List ℕ} where
  body_first : (t : Body) {i j : ℕ} → Word s (spelled_body t) i j → blank (byte_at s i) ≡ false
  unfolding blank
  body_first (lone r) w = ref_first r w
  body_first (braces ls) (Word.byte q w) = ap blank q

  body_word : (t : Body) → BodyFits t → {i j : ℕ} → Word s (spelled_body t) i j → digit (byte_at s j) ≡ false → (ws : List Span) × BodyAt s i j t ws
  unfolding blank flatten
  body_word (lone r) f w e = ([], BodyAt.one (ref_word r f w e))
  body_word (braces []) f (Word.byte a (Word.byte b w)) e = ([], BodyAt.none (Word.byte a Word.end) (Run.more (ap blank b) (Run.stop (ap blank (word_first w)))) w)
  body_word (braces (l ∷ ls)) f {i} {j} (Word.byte a (Word.byte b w)) e = go (parts (flatten (map spelled_line (l ∷ ls))) w)
    where
      go : (d : ℕ) × Word s (flatten (map spelled_line (l ∷ ls))) (suc (suc i)) d × Word s (unbrace ∷ []) d j → (ws : List Span) × BodyAt s i j (braces (l ∷ ls)) ws
      go (d, x, shut) =
          let r = lines_word l ls f x in
          let h = line_first l (flatten (map spelled_line ls)) x in
          (r.1, BodyAt.lines (Word.byte a Word.end) (Run.more (ap blank b) (Run.stop h.0)) r.2 (newline_then r.3 (ap blank (word_first shut))) shut)

  pub tree_word : (t : Tree) → TreeFits t → {i k : ℕ} → Word s (spelled_tree t) i k → (j : ℕ) × (u : TreePlace) × TreeAt s i j t u × Byte s newline j k
  unfolding spelled_tree blank digit
  tree_word t f {i} {k} (Word.byte a (Word.byte b (Word.byte c (Word.byte d (Word.byte e w))))) = go_state (parts (spelled_number t.state) w)
    where
      go_state : (m : ℕ) × Word s (spelled_number t.state) (suc (suc (suc (suc (suc i))))) m × Word s (unbracket ∷ 32 ∷ (spelled_body t.body ++ (newline ∷ []))) m k
          → (j : ℕ) × (u : TreePlace) × TreeAt s i j t u × Byte s newline j k
      go_state (m, x, Word.byte g (Word.byte h y)) = go_body (parts (spelled_body t.body) y)
        where
          go_body : (j : ℕ) × Word s (spelled_body t.body) (suc (suc m)) j × Word s (newline ∷ []) j k → (j : ℕ) × (u : TreePlace) × TreeAt s i j t u × Byte s newline j k
          go_body (j, z, shut) =
              let r = body_word t.body f.body z (ap digit (word_first shut)) in (
                j,
                record { star = i; names = r.0 },
                TreeAt.tree (Word.byte a (Word.byte b (Word.byte c Word.end))) (Run.more (ap blank d) (Run.stop (ap blank e))) (Word.byte e Word.end)
                    (number_word t.state f.state x (ap digit g)) (Word.byte g Word.end) (Run.more (ap blank h) (Run.stop (body_first t.body z))) r.1,
                shut,
              )

  tree_first : (t : Tree) (v : List ℕ) {i k : ℕ} → Word s (spelled_tree t ++ v) i k → blank (byte_at s i) ≡ false
  unfolding spelled_tree blank
  tree_first t v (Word.byte q w) = ap blank q

  pub trees_word : (t : Tree) (ts : List Tree) → All TreeFits (t ∷ ts) → {i k : ℕ} → Word s (flatten (map spelled_tree (t ∷ ts))) i k
      → (j : ℕ) × (us : List TreePlace) × Parted (Parting s) (TreeAt s) i j (t ∷ ts) us × Byte s newline j k
  unfolding flatten blank space_or_tab
  trees_word t [] (All.more f All.none) {i} {k} w = go (parts (spelled_tree t) w)
    where
      go : (b : ℕ) × Word s (spelled_tree t) i b × Word s [] b k → (j : ℕ) × (us : List TreePlace) × Parted (Parting s) (TreeAt s) i j (t ∷ []) us × Byte s newline j k
      go (b, x, Word.end) = let r = tree_word t f x in (r.0, r.1 ∷ [], Parted.last r.2, r.3)
  trees_word t (m ∷ ms) (All.more f fs) {i} {k} w = go (parts (spelled_tree t) w) (λ b v. trees_word m ms fs v)
    where
      go : (b : ℕ) × Word s (spelled_tree t) i b × Word s (flatten (map spelled_tree (m ∷ ms))) b k
          → ((b : ℕ) → Word s (flatten (map spelled_tree (m ∷ ms))) b k → (j : ℕ) × (us : List TreePlace) × Parted (Parting s) (TreeAt s) b j (m ∷ ms) us × Byte s newline j k)
          → (j : ℕ) × (us : List TreePlace) × Parted (Parting s) (TreeAt s) i j (t ∷ (m ∷ ms)) us × Byte s newline j k
      go (b, x, y) rest =
          let r = tree_word t f x in
          let q = rest b y in (
            q.0,
            r.1 ∷ q.1,
            Parted.next r.2 (Parting.parting (Run.stop (ap space_or_tab (word_first r.3))) r.3 (Run.stop (tree_first m (flatten (map spelled_tree ms)) y))) q.2,
            q.3,
          )

-- ---- questions

none_above : (b : ℕ) → 256 ≤ b → in_pattern b ≡ false
unfolding in_pattern letter digit wildcard mark one_of
none_above b l = simp (le-leb 65 b (omega arith), le-leb 97 b (omega arith), le-leb 48 b (omega arith), lt-leb b 90 (omega arith), lt-leb b 122 (omega arith), lt-leb b 57 (omega arith), ne_eqb b 42 (λ q. omega arith), ne_eqb b 63 (λ q. omega arith), ne_eqb b 33 (λ q. omega arith), ne_eqb b 35 (λ q. omega arith), ne_eqb b 37 (λ q. omega arith), ne_eqb b 38 (λ q. omega arith), ne_eqb b 43 (λ q. omega arith), ne_eqb b 45 (λ q. omega arith), ne_eqb b 47 (λ q. omega arith), ne_eqb b 58 (λ q. omega arith), ne_eqb b 61 (λ q. omega arith), ne_eqb b 64 (λ q. omega arith), ne_eqb b 94 (λ q. omega arith), ne_eqb b 95 (λ q. omega arith), ne_eqb b 124 (λ q. omega arith))

pattern_small : (b : ℕ) → in_pattern b ≡ true → b < 256
pattern_small b e = go (dec_lt b 256)
  where
    go : Dec (b < 256) → b < 256
    go (yes h) = h
    go (no h) = let z = none_above b (omega arith) in let u : ◌≡◌ {A = ℕ} 0 1 = cc in absurd (omega arith)

pub record PatternFits (w : List ℕ) : Type 0 where
  pub bytes_in : Every in_pattern w
  pub some_byte : 0 < length w

pub record QuestionFits (q : Question) : Type 0 where
  pub name : Every in_name q.name
  pub named : 0 < length q.name
  pub patterns : All PatternFits q.patterns
  pub asked : 0 < length q.patterns

module _ {s : List ℕ} where
  -- a quoted pattern, and its closing quote at b
  quoted_word : (w : List ℕ) → PatternFits w → {i b j : ℕ} → byte_at s i ≡ quote → Word s w (suc i) b → Byte s quote b j → PatternAt s i j w (spanning (suc i) b)
  unfolding in_pattern letter digit wildcard mark one_of
  quoted_word w f {i} {b} {j} q x y =
      subst (λ (p : List ℕ). PatternAt s i j p (spanning (suc i) b)) (word_between x (bytes_of pattern_small f.bytes_in))
      (PatternAt.quoted (Word.byte q Word.end) (word_run₁ x f.bytes_in f.some_byte (ap in_pattern (word_first y))) y)

  patterns_first : (w : List ℕ) (ws : List (List ℕ)) {i k : ℕ} → Word s (spelled_patterns (w ∷ ws)) i k → byte_at s i ≡ quote
  unfolding spelled_patterns
  patterns_first w [] (Word.byte q x) = q
  patterns_first w (v ∷ ws) (Word.byte q x) = q

  pub patterns_word : (w : List ℕ) (ws : List (List ℕ)) → All PatternFits (w ∷ ws) → {i k : ℕ} → Word s (spelled_patterns (w ∷ ws)) i k
      → (ps : List Span) × Parted (Comma s) (PatternAt s) i k (w ∷ ws) ps
  unfolding spelled_patterns blank
  patterns_word w [] (All.more f All.none) (Word.byte q x) = let r = parts w x in (_ ∷ [], Parted.last (quoted_word w f q r.1 r.2))
  patterns_word w (v ∷ ws) (All.more f fs) {i} {k} (Word.byte q x) = go (parts w x) (λ c y. patterns_word v ws fs y)
    where
      go : (b : ℕ) × Word s w (suc i) b × Word s (quote ∷ comma ∷ 32 ∷ spelled_patterns (v ∷ ws)) b k
          → ((c : ℕ) → Word s (spelled_patterns (v ∷ ws)) c k → (ps : List Span) × Parted (Comma s) (PatternAt s) c k (v ∷ ws) ps)
          → (ps : List Span) × Parted (Comma s) (PatternAt s) i k (w ∷ (v ∷ ws)) ps
      go (b, y, Word.byte a (Word.byte c (Word.byte d z))) rest =
          let r = rest (suc (suc (suc b))) z in (
            spanning (suc i) b ∷ r.0,
            Parted.next (quoted_word w f q y (Word.byte a Word.end)) (Comma.parting (Word.byte c Word.end) (Run.more (ap blank d) (Run.stop (ap blank (patterns_first v ws z))))) r.1,
          )

  pub question_word : (q : Question) → QuestionFits q → {i k : ℕ} → Word s (spelled_question q) i k → (j : ℕ) × (p : QuestionPlace) × QuestionAt s i j q p × Byte s newline j k
  unfolding spelled_question blank in_name
  question_word q f {i} {k} (Word.byte a (Word.byte b (Word.byte c w))) = go_name (parts q.name w)
    where
      go_name : (e : ℕ) × Word s q.name (suc (suc (suc i))) e × Word s (32 ∷ brace ∷ 32 ∷ (spelled_patterns q.patterns ++ (32 ∷ unbrace ∷ newline ∷ []))) e k
          → (j : ℕ) × (p : QuestionPlace) × QuestionAt s i j q p × Byte s newline j k
      go_name (e, x, Word.byte d (Word.byte g (Word.byte h y))) = go_patterns q.patterns refl (parts (spelled_patterns q.patterns) y)
        where
          go_patterns : (ps : List (List ℕ)) → q.patterns ≡ ps → (m : ℕ) × Word s (spelled_patterns q.patterns) (suc (suc (suc e))) m × Word s (32 ∷ unbrace ∷ newline ∷ []) m k
              → (j : ℕ) × (p : QuestionPlace) × QuestionAt s i j q p × Byte s newline j k
          go_patterns [] u r = let l = f.asked in let z = ap length u in absurd (omega arith)
          go_patterns (w ∷ ws) u (m, z, Word.byte o (Word.byte t shut)) =
              let z' = subst (λ (ps : List (List ℕ)). Word s (spelled_patterns ps) (suc (suc (suc e))) m) u z in
              let r = patterns_word w ws (subst (All PatternFits) u f.patterns) z' in
              let named = word_between x (bytes_of name_small f.name) in (
                suc (suc m),
                record { name = spanning (suc (suc (suc i))) e; patterns = r.0 },
                subst (λ (n : List ℕ). QuestionAt s i (suc (suc m)) (record { name = n; patterns = q.patterns }) (record { name = spanning (suc (suc (suc i))) e; patterns = r.0 })) named
                    (QuestionAt.question (Word.byte a (Word.byte b Word.end))
                    (Run₁.some (ap blank c) (Run.stop (name_unblank (byte_at s (suc (suc (suc i)))) (first_of x f.name f.named))))
                    (word_run₁ x f.name f.named (ap in_name d))
                    (Run₁.some (ap blank d) (Run.stop (ap blank g)))
                    (Word.byte g Word.end) (Run.more (ap blank h) (Run.stop (ap blank (patterns_first w ws z'))))
                    (subst (λ (ps : List (List ℕ)). Parted (Comma s) (PatternAt s) (suc (suc (suc e))) m ps r.0) (sym u) r.1)
                    (Run.more (ap blank o) (Run.stop (ap blank t))) (Word.byte t Word.end)),
                shut,
              )

  question_first : (q : Question) (v : List ℕ) {i k : ℕ} → Word s (spelled_question q ++ v) i k → blank (byte_at s i) ≡ false
  unfolding spelled_question blank
  question_first q v (Word.byte a w) = ap blank a

  pub questions_word : (q : Question) (qs : List Question) → All QuestionFits (q ∷ qs) → {i k : ℕ} → Word s (flatten (map spelled_question (q ∷ qs))) i k
      → (j : ℕ) × (ps : List QuestionPlace) × Parted (Parting s) (QuestionAt s) i j (q ∷ qs) ps × Byte s newline j k
  unfolding flatten blank space_or_tab
  questions_word q [] (All.more f All.none) {i} {k} w = go (parts (spelled_question q) w)
    where
      go : (b : ℕ) × Word s (spelled_question q) i b × Word s [] b k → (j : ℕ) × (ps : List QuestionPlace) × Parted (Parting s) (QuestionAt s) i j (q ∷ []) ps × Byte s newline j k
      go (b, x, Word.end) = let r = question_word q f x in (r.0, r.1 ∷ [], Parted.last r.2, r.3)
  questions_word q (m ∷ ms) (All.more f fs) {i} {k} w = go (parts (spelled_question q) w) (λ b v. questions_word m ms fs v)
    where
      go : (b : ℕ) × Word s (spelled_question q) i b × Word s (flatten (map spelled_question (m ∷ ms))) b k
          → ((b : ℕ) → Word s (flatten (map spelled_question (m ∷ ms))) b k
          → (j : ℕ) × (ps : List QuestionPlace) × Parted (Parting s) (QuestionAt s) b j (m ∷ ms) ps × Byte s newline j k)
          → (j : ℕ) × (ps : List QuestionPlace) × Parted (Parting s) (QuestionAt s) i j (q ∷ (m ∷ ms)) ps × Byte s newline j k
      go (b, x, y) rest =
          let r = question_word q f x in
          let t = rest b y in (
            t.0,
            r.1 ∷ t.1,
            Parted.next r.2 (Parting.parting (Run.stop (ap space_or_tab (word_first r.3))) r.3 (Run.stop (question_first m (flatten (map spelled_question ms)) y))) t.2,
            t.3,
          )

-- ---- a text

-- names, patterns, states, ids and PDF numbers are such as a text can have, and there is a tree
pub record TextFits (t : Text) : Type 0 where
  pub questions : All QuestionFits t.questions
  pub trees : All TreeFits t.trees
  pub some_tree : 0 < length t.trees

-- what is spelled says what it was spelled of, whatever stands before it
pub spelled_says : (before : List ℕ) (t : Text) → TextFits t → (l : Layout) × Says (before ++ spelled t) (length before) t l
unfolding spelled flatten blank byte_at
spelled_says before t f = go t.questions t.trees refl refl f.questions f.trees f.some_tree
  where
    S : List ℕ
    S = before ++ spelled t

    -- behind the last tree's newline the text ends
    closes : {j : ℕ} → Byte S newline j (length S) → Run S blank j (length S)
    closes w = newline_then w (ap blank (past_end S (length S) (omega arith)))

    trees_at : (i : ℕ) (m : Tree) (ms : List Tree) → All TreeFits (m ∷ ms) → (a : ℕ) → Run S blank i a → Word S (flatten (map spelled_tree (m ∷ ms))) a (length S)
        → (us : List TreePlace) × TreesAt S i (m ∷ ms) us
    trees_at i m ms f a b w = let r = trees_word m ms f w in (r.1, TreesAt.trees b r.2 (closes r.3))

    go : (qs : List Question) (ts : List Tree) → t.questions ≡ qs → t.trees ≡ ts → All QuestionFits t.questions → All TreeFits t.trees → 0 < length t.trees
        → (l : Layout) × Says S (length before) t l
    go qs [] e h fq ft l = let z = ap length h in absurd (omega arith)
    go [] (m ∷ ms) e h fq ft l =
        let w = word_ends S before (flatten (map spelled_tree (m ∷ ms)))
        (ap₂ (λ (a : List Question) (b : List Tree). before ++ (flatten (map spelled_question a) ++ flatten (map spelled_tree b))) e h) in
        let r = trees_at (length before) m ms (subst (All TreeFits) h ft) (length before) (Run.stop (tree_first m (flatten (map spelled_tree ms)) w)) w in (
          record { questions = []; trees = r.0 },
          subst (λ (x : Text). Says S (length before) x (record { questions = []; trees = r.0 }))
              (ap₂ (λ (a : List Question) (b : List Tree). record { questions = a; trees = b }) (sym e) (sym h)) (Says.without r.1),
        )
    go (q ∷ qs) (m ∷ ms) e h fq ft l =
        let w = word_ends S before (flatten (map spelled_question (q ∷ qs)) ++ flatten (map spelled_tree (m ∷ ms)))
        (ap₂ (λ (a : List Question) (b : List Tree). before ++ (flatten (map spelled_question a) ++ flatten (map spelled_tree b))) e h) in
        let p = parts (flatten (map spelled_question (q ∷ qs))) w in
        let k = questions_word q qs (subst (All QuestionFits) e fq) p.1 in
        let r = trees_at k.0 m ms (subst (All TreeFits) h ft) p.0 (newline_then k.3 (tree_first m (flatten (map spelled_tree ms)) p.2)) p.2 in (
          record { questions = k.1; trees = r.0 },
          subst (λ (x : Text). Says S (length before) x (record { questions = k.1; trees = r.0 }))
              (ap₂ (λ (a : List Question) (b : List Tree). record { questions = a; trees = b }) (sym e) (sym h)) (Says.with_questions k.2 r.1),
        )
