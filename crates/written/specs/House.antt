-- House voices: the seven rules, 30 to 36, and the first that a voice breaks. From 02's Wish 11.
use Rattle.std.specs.Prelude.{◌≡◌, List, ◌∷◌, ℕ, suc, ◌+◌, ◌*◌, ◌/◌, ◌≤◌, ◌<◌, length}
use Rattle.written.specs.Interchange.{decode, finite}
use Rattle.written.specs.Groups.{Pointwise}
use Rattle.written.specs.Record.{Header, All, Says}
use Rattle.written.specs.Faults.{Refused}
use Rattle.written.specs.Blocks as block
use Rattle.written.specs.Said.{Ref, pdf, Line, Body, lone, braces, Tree, Layout}
use Rattle.written.specs.Linking.{Nth, Row}
use Rattle.written.specs.Tables.{TreeRows}
use Rattle.written.specs.Writing.{Numbered}
use Rattle.written.specs.Models.{Model, model_number, Models, bytes_of}
use Rattle.written.specs.Loading.{ModelSaid, ReadsModel, NoModel}

-- ---- the rules of a model

-- 31 and 33: no two have the same name
abbrev pub NoneTwice : {A : Type 0} → (A → List ℕ) → List A → Type 0
NoneTwice {A} name l = (i j : ℕ) (x y : A) → Nth l i x → Nth l j y → name x ≡ name y → i ≡ j

-- 32: ids 0, -1, -2 in line order; a lone reference has none
pub data IdsRun : Body → Type 0 where
  alone : {r : Ref} → IdsRun (lone r)
  lines : {ls : List Line} → Numbered 0 ls → IdsRun (braces ls)

-- the PDF numbers of a body
pub data Leaf : Body → ℕ → Type 0 where
  alone : {n : ℕ} → Leaf (lone (pdf n)) n
  yes_side : {ls : List Line} {l : Line} {k n : ℕ} → Nth ls k l → l.yes ≡ pdf n → Leaf (braces ls) n
  no_side : {ls : List Line} {l : Line} {k n : ℕ} → Nth ls k l → l.no ≡ pdf n → Leaf (braces ls) n

-- IEEE 754, of a binary64: finite; finite and above zero
pub data Finite (b : ℕ) : Type 0 where
  is : {s m p q : ℕ} → decode 11 52 b ≡ finite s m p q → Finite b

pub data AboveZero (b : ℕ) : Type 0 where
  is : {m p q : ℕ} → decode 11 52 b ≡ finite 0 (suc m) p q → AboveZero b

module _ (x : ModelSaid) where
  abbrev pub Ids : Type 0
  Ids = (k : ℕ) (t : Tree) → Nth x.text.trees k t → IdsRun t.body

  abbrev pub Names : Type 0
  Names = NoneTwice (λ q. q.name) x.text.questions

  -- 34: every leaf is at least 1 and at most the entries of its tree
  abbrev pub Leaves : Type 0
  Leaves = (k n : ℕ) (t : Tree) (r : block.Row) → Nth x.text.trees k t → Nth x.rows k r → Leaf t.body n → (1 ≤ n) × (n ≤ r.entries)

  -- 35 and 36: an entry is mean, variance, mean, variance, .. and, where the width is odd, a value that is free
  abbrev pub Means : Type 0
  Means = (i k v : ℕ) → k < x.width / 2 → Nth x.values (i * x.width + 2 * k) v → Finite v

  abbrev pub Variances : Type 0
  Variances = (i k v : ℕ) → k < x.width / 2 → Nth x.values (i * x.width + 2 * k + 1) v → AboveZero v

  -- a model by the house's rules
  pub record HouseModel : Type 0 where
    pub ids : Ids
    pub names : Names
    pub leaves : Leaves
    pub means : Means
    pub variances : Variances

  -- the first rule that it breaks
  pub data ModelBreaks : ℕ → Type 0 where
    ids : ¬ Ids → ModelBreaks 32
    names : Ids → ¬ Names → ModelBreaks 33
    leaves : Ids → Names → ¬ Leaves → ModelBreaks 34
    means : Ids → Names → Leaves → ¬ Means → ModelBreaks 35
    variances : Ids → Names → Leaves → Means → ¬ Variances → ModelBreaks 36

-- ---- a voice: the first two rules, then the first model that breaks one. s is the file, ms its models, xs what they are

-- the first model that breaks a rule: the rule and the model's number
pub data FirstBreaks : List Model → List ModelSaid → ℕ → ℕ → Type 0 where
  here : {m : Model} {ms : List Model} {x : ModelSaid} {xs : List ModelSaid} {n : ℕ} → ModelBreaks x n → FirstBreaks (m ∷ ms) (x ∷ xs) n (model_number m)
  later : {m : Model} {ms : List Model} {x : ModelSaid} {xs : List ModelSaid} {n k : ℕ} → HouseModel x → FirstBreaks ms xs n k → FirstBreaks (m ∷ ms) (x ∷ xs) n k

module _ (s : List ℕ) (h : Header) where
  -- 30
  abbrev pub Counted : Type 0
  Counted = h.global.num_streams ≡ length h.global.stream_type

  -- 31
  abbrev pub TypesOnce : Type 0
  TypesOnce = NoneTwice (bytes_of s) h.global.stream_type

  pub record HouseVoice (xs : List ModelSaid) : Type 0 where
    pub counted : Counted
    pub types : TypesOnce
    pub each : All HouseModel xs

  -- the rule, and the model that breaks it, 0 for the first two rules
  pub data VoiceBreaks (ms : List Model) (xs : List ModelSaid) : ℕ → ℕ → Type 0 where
    counted : ¬ Counted → VoiceBreaks ms xs 30 0
    types : Counted → ¬ TypesOnce → VoiceBreaks ms xs 31 0
    model : {n k : ℕ} → Counted → TypesOnce → FirstBreaks ms xs n k → VoiceBreaks ms xs n k

-- ---- the models of a file, as a load with room for them reads them; `widen` is that of Blocks

-- what it says, read and linked: its tree and record rows are there
pub record SaysModel (widen : ℕ → ℕ) (s : List ℕ) (h : Header) (m : Model) (x : ModelSaid) : Type 0 where
  pub layout : Layout
  pub trees : List Row
  pub records : List Row
  pub reads : ReadsModel widen s h m x layout
  pub linked : TreeRows x.text.questions 0 x.text.trees trees records

-- ---- the call: number, place, line, model. A load is done with what a model is, or refused with number, place and line; all models are loaded before a rule is judged

module _ (Loads : Model → ModelSaid → Type 0) (Refuses : Model → ℕ → ℕ → ℕ → Type 0) where
  -- the first load that is refused
  pub data FirstRefused : List Model → ℕ → ℕ → ℕ → ℕ → Type 0 where
    here : {m : Model} {ms : List Model} {n p l : ℕ} → Refuses m n p l → FirstRefused (m ∷ ms) n p l (model_number m)
    later : {m : Model} {ms : List Model} {x : ModelSaid} {n p l k : ℕ} → Loads m x → FirstRefused ms n p l k → FirstRefused (m ∷ ms) n p l k

  pub data Judges (s : List ℕ) (h : Header) (ms : List Model) : ℕ → ℕ → ℕ → ℕ → Type 0 where
    refused : {n p l k : ℕ} → FirstRefused ms n p l k → Judges s h ms n p l k
    breaks : {xs : List ModelSaid} {n k : ℕ} → Pointwise Loads ms xs → VoiceBreaks s h ms xs n k → Judges s h ms n 0 0 k
    house : {xs : List ModelSaid} → Pointwise Loads ms xs → HouseVoice s h xs → Judges s h ms 0 0 0 0

-- ---- of a file, in tables with room for each of its models
pub data JudgesFile (widen : ℕ → ℕ) (file : List ℕ) : ℕ → ℕ → ℕ → ℕ → Type 0 where
  unopened : {n p : ℕ} → Refused file n p → JudgesFile widen file n p 0 0
  opened : {h : Header} {ms : List Model} {n p l k : ℕ}
      → Says file h → Models file h ms → Judges (SaysModel widen file h) (NoModel widen file h) file h ms n p l k → JudgesFile widen file n p l k
