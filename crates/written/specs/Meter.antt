-- The walk straight over a tree text (document 02, Wish 12), with an answer byte for each question or fewer, and the lines that it reads.
-- Like the written walk it knows no table; unlike it, a byte may be missing (24), and the lines read are counted: the first, and all lines of the
-- tree for each id that is followed, since only then is the last line bearing it known.
use Rattle.std.specs.Prelude.{◌≡◌, List, [], ◌∷◌, ℕ, zero, suc, ◌+◌, length, ℤ}
use Rattle.written.specs.Said.{node, pdf, Line, Body, lone, braces, Tree, Question, Text, Layout}
use Rattle.written.specs.TreeText.{Says}
use Rattle.written.specs.Breaks.{Breaks}
use Rattle.written.specs.Linking.{Nth, LastLine, LastQuestion, NotSingle, Row, Records, Refused}
use Rattle.written.specs.Tables.{Negative}
use Rattle.written.specs.Walks.{chosen, is_yes}

-- how it ends: at a PDF, after so many questions and so many lines read; or refused
pub data Metered : Type 0 where
  at : (pdf asked lines : ℕ) → Metered
  refused : ℕ → Metered

-- one question and so many lines before it
abbrev pub before : ℕ → Metered → Metered
before n (at p a r) = at p (suc a) (n + r)
before n (refused c) = refused c

-- so many lines, and no question
abbrev pub reading : ℕ → Metered → Metered
reading n (at p a r) = at p a (n + r)
reading n (refused c) = refused c

module _ (qs : List Question) (bytes : List ℕ) where
  -- from line k on, which is read, m questions still allowed; 24 comes before 25
  pub data Along (ls : List Line) : ℕ → ℕ → Metered → Type 0 where
    unanswered : {k m q : ℕ} {l : Line} → Nth ls k l → LastQuestion qs l.question q → ((b : ℕ) → ¬ Nth bytes q b) → Along ls k m (refused 24)
    met : {k q b : ℕ} {l : Line} → Nth ls k l → LastQuestion qs l.question q → Nth bytes q b → Along ls k zero (refused 25)
    ends : {k m q b n : ℕ} {l : Line}
        → Nth ls k l → LastQuestion qs l.question q → Nth bytes q b → chosen (is_yes b) l.yes l.no ≡ pdf n → Along ls k (suc m) (at n 1 0)
    goes : {k m q b j : ℕ} {l : Line} {x : ℤ} {e : Metered}
        → Nth ls k l → LastQuestion qs l.question q → Nth bytes q b → chosen (is_yes b) l.yes l.no ≡ node x → LastLine ls x j
        → Along ls j m e → Along ls k (suc m) (before (length ls) e)

  -- a tree that links, with a limit
  pub data Over : Body → ℕ → Metered → Type 0 where
    alone : {m n : ℕ} → Over (lone (pdf n)) m (at n 0 0)
    alike : {l : Line} {m n : ℕ} → l.no ≡ pdf n → l.yes ≡ pdf n → Over (braces (l ∷ [])) m (at n 0 1)
    empty : {m : ℕ} → Over (braces []) m (refused 24)
    lines : {l : Line} {ls : List Line} {m : ℕ} {e : Metered} → NotSingle (l ∷ ls) → Along (l ∷ ls) 0 m e → Over (braces (l ∷ ls)) m (reading 1 e)

-- number, place, line, PDF number, questions asked, lines read
pub record Meter : Type 0 where
  pub number : ℕ
  pub place : ℕ
  pub line : ℕ
  pub pdf : ℕ
  pub asked : ℕ
  pub lines : ℕ

abbrev pub meter_refused : ℕ → ℕ → ℕ → Meter
meter_refused c p k = record { number = c; place = p; line = k; pdf = 0; asked = 0; lines = 0 }

abbrev pub meter_of : Metered → Meter
meter_of (at n a r) = record { number = 0; place = 0; line = 0; pdf = n; asked = a; lines = r }
meter_of (refused c) = meter_refused c 0 0

-- tree t of what a text says
pub data MetersText (bytes : List ℕ) (x : Text) (t m : ℕ) : Meter → Type 0 where
  negative : Negative x.trees → MetersText bytes x t m (meter_refused 18 0 0)
  missing : ¬ Negative x.trees → ((e : Tree) → ¬ Nth x.trees t e) → MetersText bytes x t m (meter_refused 24 0 0)
  unlinked : {e : Tree} {c k : ℕ} → ¬ Negative x.trees → Nth x.trees t e → Refused x.questions e.body c k → MetersText bytes x t m (meter_refused c t k)
  walks : {e : Tree} {own : List Row} {w : Metered}
      → ¬ Negative x.trees → Nth x.trees t e → Records x.questions e.body own → Over x.questions bytes e.body m w → MetersText bytes x t m (meter_of w)

-- the text is s from i on; one that breaks says where (Wish 2)
pub data Meters (s : List ℕ) (i : ℕ) (bytes : List ℕ) (t m : ℕ) : Meter → Type 0 where
  breaks : {p : ℕ} → Breaks s i p → Meters s i bytes t m (meter_refused 17 p 0)
  says : {x : Text} {u : Layout} {r : Meter} → Says s i x u → MetersText bytes x t m r → Meters s i bytes t m r
