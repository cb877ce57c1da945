-- The models of a voice, in order; where the tree text and the block of each stand, or why nowhere (13 to 15); what its text says, or why nothing (16 to 18).
-- From 01's 'Numbers the loader gives', and 02's Wishes 7 and 11. A range counts from the first data byte, and its end belongs to it.
use Rattle.std.specs.Prelude.{◌≡◌, Bool, true, false, List, [], ◌∷◌, ℕ, suc, ◌+◌, ◌*◌, ◌≤◌, length, take}
use Rattle.std.proofs.Math.Option.{some, none}
use Rattle.written.specs.Bytes.{part, Span}
use Rattle.written.specs.HeaderText.{Range}
use Rattle.written.specs.Record.{Stream, Position, Header}
use Rattle.written.specs.Said.{Text, Layout}
use Rattle.written.specs.TreeText.{Says}
use Rattle.written.specs.Breaks.{Breaks}
use Rattle.written.specs.Linking.{Nth, Last}
use Rattle.written.specs.Tables.{Negative}

-- the duration model; of the i-th name in STREAM_TYPE its stream, and its GV
pub data Model : Type 0 where
  duration : Model
  stream gv : ℕ → Model

-- 0 duration, 2i + 1 stream i, 2i + 2 its GV
abbrev pub model_number : Model → ℕ
model_number duration = 0
model_number (stream i) = 2 * i + 1
model_number (gv i) = 2 * i + 2

-- the model is of the i-th name
pub data OfName : Model → ℕ → Type 0 where
  a_stream : {i : ℕ} → OfName (stream i) i
  a_gv : {i : ℕ} → OfName (gv i) i

-- ---- entries by their name: of those that bear it, the last one counts

abbrev pub bytes_of : List ℕ → Span → List ℕ
bytes_of s x = part s x.start x.len

abbrev pub stream_name : Stream → Span
stream_name d = d.name

abbrev pub position_name : Position → Span
position_name p = p.name

-- x is the last of the entries l whose name has the bytes w
pub record LastNamed {A : Type 0} (name : A → Span) (s w : List ℕ) (l : List A) (x : A) : Type 0 where
  pub row : ℕ
  pub last : Last (λ e. bytes_of s (name e) ≡ w) l row
  pub entry : last.at ≡ x

-- none of them has that name
abbrev pub Unnamed : {A : Type 0} → (A → Span) → List ℕ → List ℕ → List A → Type 0
Unnamed {A} name s w l = (k : ℕ) (x : A) → Nth l k x → ¬ (bytes_of s (name x) ≡ w)

abbrev pub bit : Bool → ℕ
bit true = 1
bit false = 0

-- the bytes of the data
abbrev pub data_of : List ℕ → Header → List ℕ
data_of s h = bytes_of s h.datum

-- a range, whose end belongs to it, lies inside the data
pub record Within (r : Range) (d : List ℕ) : Type 0 where
  pub order : r.from ≤ r.to + 1
  pub ends : r.to + 1 ≤ length d

-- a file s that says the record h
module _ (s : List ℕ) (h : Header) where
  -- ---- where a model stands

  -- what [STREAM] and [POSITION] have for the i-th name
  pub record EntriesOf (i : ℕ) (d : Stream) (p : Position) : Type 0 where
    pub name : Span
    pub named : Nth h.global.stream_type i name
    pub in_positions : LastNamed position_name s (bytes_of s name) h.positions p
    pub in_streams : LastNamed stream_name s (bytes_of s name) h.streams d

  -- its tree text, its block, and the block's width
  pub data Placed : Model → Range → Range → ℕ → Type 0 where
    of_duration : Placed duration h.duration_tree h.duration_pdf (2 * h.global.num_states)
    of_stream : {i : ℕ} {d : Stream} {p : Position}
        → EntriesOf i d p → Placed (stream i) p.stream_tree p.stream_pdf (2 * (d.vector_length * d.num_windows) + bit d.is_msd)
    of_gv : {i : ℕ} {d : Stream} {p : Position} {t b : Range}
        → EntriesOf i d p → d.use_gv ≡ true → p.gv_tree ≡ some t → p.gv_pdf ≡ some b → Placed (gv i) t b (2 * d.vector_length)

  -- 15: the stream uses no GV, or its tree or its block is absent
  pub data NoGv (d : Stream) (p : Position) : Type 0 where
    unused : d.use_gv ≡ false → NoGv d p
    no_tree : p.gv_tree ≡ none → NoGv d p
    no_block : p.gv_pdf ≡ none → NoGv d p

  -- 13: there is no such name, or no position of it; 14: no stream of it; 15
  pub data Unplaced : Model → ℕ → Type 0 where
    no_name : {m : Model} {i : ℕ} → OfName m i → ((x : Span) → ¬ Nth h.global.stream_type i x) → Unplaced m 13
    no_position : {m : Model} {i : ℕ} {x : Span} → OfName m i → Nth h.global.stream_type i x → Unnamed position_name s (bytes_of s x) h.positions → Unplaced m 13
    no_stream : {m : Model} {i : ℕ} {x : Span} {p : Position}
        → OfName m i → Nth h.global.stream_type i x → LastNamed position_name s (bytes_of s x) h.positions p → Unnamed stream_name s (bytes_of s x) h.streams
        → Unplaced m 14
    no_gv : {i : ℕ} {d : Stream} {p : Position} → EntriesOf i d p → NoGv d p → Unplaced (gv i) 15

  -- ---- the models of a voice: duration first, then each stream and, unless USE_GV is 0, its GV

  -- of these names, the first of which is the i-th; a name without an entry in [STREAM] has its stream model alone, which is refused
  pub data StreamModels : ℕ → List Span → List Model → Type 0 where
    end : {i : ℕ} → StreamModels i [] []
    both : {i : ℕ} {x : Span} {xs : List Span} {d : Stream} {ms : List Model}
        → LastNamed stream_name s (bytes_of s x) h.streams d → d.use_gv ≡ true → StreamModels (suc i) xs ms → StreamModels i (x ∷ xs) (stream i ∷ gv i ∷ ms)
    alone : {i : ℕ} {x : Span} {xs : List Span} {d : Stream} {ms : List Model}
        → LastNamed stream_name s (bytes_of s x) h.streams d → d.use_gv ≡ false → StreamModels (suc i) xs ms → StreamModels i (x ∷ xs) (stream i ∷ ms)
    unnamed : {i : ℕ} {x : Span} {xs : List Span} {ms : List Model}
        → Unnamed stream_name s (bytes_of s x) h.streams → StreamModels (suc i) xs ms → StreamModels i (x ∷ xs) (stream i ∷ ms)

  pub data Models : List Model → Type 0 where
    voice : {ms : List Model} → StreamModels 0 h.global.stream_type ms → Models (duration ∷ ms)

  -- ---- the text of a model

  -- it says t, laid out as l, and no state is negative
  pub record TextOf (m : Model) (t : Text) (l : Layout) : Type 0 where
    pub tree : Range
    pub block : Range
    pub width : ℕ
    pub placed : Placed m tree block width
    pub inside : Within tree (data_of s h)
    pub says : Says (take (tree.to + 1) (data_of s h)) tree.from t l
    pub natural : ¬ Negative t.trees

  -- number and place of what is wrong with it: 13 to 15; its range is not inside the data (16); the text breaks (17, with the place of Wish 2); a state is negative (18).
  -- The width's limit and the block are not looked at
  pub data NoTextOf (m : Model) : ℕ → ℕ → Type 0 where
    unplaced : {n : ℕ} → Unplaced m n → NoTextOf m n 0
    outside : {t b : Range} {w : ℕ} → Placed m t b w → ¬ Within t (data_of s h) → NoTextOf m 16 0
    breaks : {t b : Range} {w p : ℕ} → Placed m t b w → Within t (data_of s h) → Breaks (take (t.to + 1) (data_of s h)) t.from p → NoTextOf m 17 p
    negative : {t b : Range} {w : ℕ} {x : Text} {l : Layout}
        → Placed m t b w → Within t (data_of s h) → Says (take (t.to + 1) (data_of s h)) t.from x l → Negative x.trees → NoTextOf m 18 0
