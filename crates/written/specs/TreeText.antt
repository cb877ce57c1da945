-- The grammar of document 01, 'Tree text', as a relation between a text, two places in it, and what stands between them.
-- The text is s; a place is counted from its first byte. 'X i j ..' reads: an X stands from i up to j, the byte at j no more in it.
-- A rule lists its parts in the text's order, each from where the last one ended.
use Rattle.std.specs.Prelude.{◌≡◌, Bool, true, false, List, [], ◌∷◌, ℕ, suc, ◌^◌, ◌≤◌, ◌<◌, length, ℤ, pos, neg_ℤ}
use Rattle.written.specs.Bytes.{newline, quote, comma, dash, bracket, unbracket, brace, unbrace, digit, in_pattern, in_word, blank, space_or_tab, in_name, byte_at, between, decimal, Span, spanning}
use Rattle.written.specs.Said.{Ref, node, pdf, Line, Body, lone, braces, Tree, Question, Text, QuestionPlace, TreePlace, Layout}

-- the words of the grammar of more than one byte
abbrev pub QS : List ℕ
QS = 81 ∷ 83 ∷ []

abbrev pub star : List ℕ
star = 123 ∷ 42 ∷ 125 ∷ []

module _ {A B : Type 0} where
  -- one or more items, parted
  pub data Parted (Parting : ℕ → ℕ → Type 0) (Item : ℕ → ℕ → A → B → Type 0) : ℕ → ℕ → List A → List B → Type 0 where
    last : {i j : ℕ} {x : A} {y : B} → Item i j x y → Parted Parting Item i j (x ∷ []) (y ∷ [])
    next : {i a b j : ℕ} {x : A} {y : B} {xs : List A} {ys : List B}
        → Item i a x y → Parting a b → Parted Parting Item b j xs ys → Parted Parting Item i j (x ∷ xs) (y ∷ ys)

module _ (s : List ℕ) where
  -- ---- words and runs

  -- the bytes of a word, one after the other
  pub data Word : List ℕ → ℕ → ℕ → Type 0 where
    end : {i : ℕ} → Word [] i i
    byte : {b i j : ℕ} {w : List ℕ} → byte_at s i ≡ b → Word w (suc i) j → Word (b ∷ w) i j

  -- one byte
  abbrev pub Byte : ℕ → ℕ → ℕ → Type 0
  Byte b = Word (b ∷ [])

  -- bytes of one class, possibly none, as far as they go: the byte at which they stop is of no such class
  pub data Run (p : ℕ → Bool) : ℕ → ℕ → Type 0 where
    stop : {i : ℕ} → p (byte_at s i) ≡ false → Run p i i
    more : {i j : ℕ} → p (byte_at s i) ≡ true → Run p (suc i) j → Run p i j

  -- the same, at least one
  pub data Run₁ (p : ℕ → Bool) : ℕ → ℕ → Type 0 where
    some : {i j : ℕ} → p (byte_at s i) ≡ true → Run p (suc i) j → Run₁ p i j

  abbrev pub Blanks : ℕ → ℕ → Type 0
  Blanks = Run blank

  abbrev pub Blanks₁ : ℕ → ℕ → Type 0
  Blanks₁ = Run₁ blank

  -- ASCII without blanks
  abbrev pub Name : ℕ → ℕ → Type 0
  Name = Run₁ in_name

  -- ---- what parts two items

  -- two questions or two trees: any spaces or tabs, one newline, then any blanks
  pub data Parting : ℕ → ℕ → Type 0 where
    parting : {i a b j : ℕ} → Run space_or_tab i a → Byte newline a b → Blanks b j → Parting i j

  -- two lines: after the newline any spaces or tabs, then any blanks
  pub data LineParting : ℕ → ℕ → Type 0 where
    parting : {i a b c j : ℕ} → Run space_or_tab i a → Byte newline a b → Run space_or_tab b c → Blanks c j → LineParting i j

  -- two patterns: a comma at once, then any blanks
  pub data Comma : ℕ → ℕ → Type 0 where
    parting : {i a j : ℕ} → Byte comma i a → Blanks a j → Comma i j

  -- ---- numbers and references

  -- decimal digits, as far as they go, and the number that they say
  pub data Digits : ℕ → ℕ → ℕ → Type 0 where
    digits : {i j : ℕ} → Run₁ digit i j → Digits i j (decimal 0 (between s i j))

  -- decimal digits, perhaps after -, that fit signed 64 bits: a state, an id, a node
  pub data Number : ℕ → ℕ → ℤ → Type 0 where
    plus : {i j n : ℕ} → Digits i j n → n < 2 ^ 63 → Number i j (pos n)
    minus : {i a j n : ℕ} → Byte dash i a → Digits a j n → n ≤ 2 ^ 63 → Number i j (neg_ℤ (pos n))

  -- a reference without its quotes. A PDF: where no number that fits stands, letters, digits and _, as far as they go;
  -- k is the last of them that is no digit, and the digits after it give at most 2^63 - 1
  pub data Bare : ℕ → ℕ → Ref → Type 0 where
    number : {i j : ℕ} {x : ℤ} → Number i j x → Bare i j (node x)
    word : {i k j n : ℕ} → ((e : ℕ) (x : ℤ) → ¬ Number i e x) → Run₁ in_word i j
        → i ≤ k → digit (byte_at s k) ≡ false → Digits (suc k) j n → n < 2 ^ 63 → Bare i j (pdf n)

  -- bare, or in "
  pub data Reference : ℕ → ℕ → Ref → Type 0 where
    bare : {i j : ℕ} {r : Ref} → Bare i j r → Reference i j r
    quoted : {i a b j : ℕ} {r : Ref} → Byte quote i a → Bare a b r → Byte quote b j → Reference i j r

  -- ---- questions

  -- one or more bytes of the first four classes, bare or in "
  pub data PatternAt : ℕ → ℕ → List ℕ → Span → Type 0 where
    bare : {i j : ℕ} → Run₁ in_pattern i j → PatternAt i j (between s i j) (spanning i j)
    quoted : {i a b j : ℕ} → Byte quote i a → Run₁ in_pattern a b → Byte quote b j → PatternAt i j (between s a b) (spanning a b)

  -- QS, blanks, name, blanks, { patterns }
  pub data QuestionAt : ℕ → ℕ → Question → QuestionPlace → Type 0 where
    question : {i a b c d e f g h j : ℕ} {ps : List (List ℕ)} {ws : List Span}
        → Word QS i a → Blanks₁ a b → Name b c → Blanks₁ c d
        → Byte brace d e → Blanks e f → Parted Comma PatternAt f g ps ws → Blanks g h → Byte unbrace h j
        → QuestionAt i j (record { name = between s b c; patterns = ps }) (record { name = spanning b c; patterns = ws })

  -- ---- trees

  -- id, question name, no reference, yes reference, with blanks between
  pub data LineAt : ℕ → ℕ → Line → Span → Type 0 where
    line : {i a b c d e f j : ℕ} {x : ℤ} {n y : Ref}
        → Number i a x → Blanks₁ a b → Name b c → Blanks₁ c d → Reference d e n → Blanks₁ e f → Reference f j y
        → LineAt i j (record { id = x; question = between s b c; no = n; yes = y }) (spanning b c)

  -- one reference, or { lines } with possibly no line
  pub data BodyAt : ℕ → ℕ → Body → List Span → Type 0 where
    one : {i j : ℕ} {r : Ref} → Reference i j r → BodyAt i j (lone r) []
    none : {i a b j : ℕ} → Byte brace i a → Blanks a b → Byte unbrace b j → BodyAt i j (braces []) []
    lines : {i a b c d j : ℕ} {ls : List Line} {ws : List Span}
        → Byte brace i a → Blanks a b → Parted LineParting LineAt b c ls ws → Blanks c d → Byte unbrace d j → BodyAt i j (braces ls) ws

  -- {*}, [state] with blanks around it, body
  pub data TreeAt : ℕ → ℕ → Tree → TreePlace → Type 0 where
    tree : {i a b c d e f j : ℕ} {x : ℤ} {t : Body} {ws : List Span}
        → Word star i a → Blanks a b → Byte bracket b c → Number c d x → Byte unbracket d e → Blanks e f → BodyAt f j t ws
        → TreeAt i j (record { state = x; body = t }) (record { star = i; names = ws })

  -- ---- a text

  -- trees, at least one, from i up to the end of s, with blanks before the first and after the last
  pub data TreesAt : ℕ → List Tree → List TreePlace → Type 0 where
    trees : {i a b : ℕ} {ts : List Tree} {us : List TreePlace}
        → Blanks i a → Parted Parting TreeAt a b ts us → Blanks b (length s) → TreesAt i ts us

  -- s from i on says t: questions, with no blank before the first, or none; then trees
  pub data Says : ℕ → Text → Layout → Type 0 where
    without : {i : ℕ} {ts : List Tree} {us : List TreePlace}
        → TreesAt i ts us → Says i (record { questions = []; trees = ts }) (record { questions = []; trees = us })
    with_questions : {i a : ℕ} {qs : List Question} {ws : List QuestionPlace} {ts : List Tree} {us : List TreePlace}
        → Parted Parting QuestionAt i a qs ws → TreesAt a ts us
        → Says i (record { questions = qs; trees = ts }) (record { questions = ws; trees = us })
