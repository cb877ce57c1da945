-- What a tree text says, and beside it where its strings stand: document 01, 'Tree text'.
-- Two texts are equal but for string starts where what they say is equal; the layouts may differ.
use Rattle.std.specs.Prelude.{List, ℕ, ℤ}
use Rattle.written.specs.Bytes.{Span}

-- ---- what is said

-- a reference: the node of an id, or the PDF of a number
pub data Ref : Type 0 where
  node : ℤ → Ref
  pdf : ℕ → Ref

-- a line: id, question name, no, yes
pub record Line : Type 0 where
  pub id : ℤ
  pub question : List ℕ
  pub no : Ref
  pub yes : Ref

-- what follows [state]: one reference, or braces with lines, possibly none
pub data Body : Type 0 where
  lone : Ref → Body
  braces : List Line → Body

pub record Tree : Type 0 where
  pub state : ℤ
  pub body : Body

-- a QS line: its name and its patterns
pub record Question : Type 0 where
  pub name : List ℕ
  pub patterns : List (List ℕ)

pub record Text : Type 0 where
  pub questions : List Question
  pub trees : List Tree

-- ---- where it stands, counted from the first data byte; quotes are left out

pub record QuestionPlace : Type 0 where
  pub name : Span
  pub patterns : List Span

-- a tree's {*}, and the question name of each of its lines
pub record TreePlace : Type 0 where
  pub star : ℕ
  pub names : List Span

pub record Layout : Type 0 where
  pub questions : List QuestionPlace
  pub trees : List TreePlace
