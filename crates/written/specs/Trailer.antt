-- A trailer after a voice's data: what is written, what is read, and each refusal in its order. From 02's Wish 7.
use Rattle.std.specs.Prelude.{◌≡◌, ◌⊎◌, List, [], ◌∷◌, ◌++◌, ℕ, ◌+◌, ◌-◌, ◌*◌, ◌%◌, ◌^◌, ◌≤◌, ◌<◌, length}
use Rattle.written.specs.Record.{Header, Says, file_limit}
use Rattle.written.specs.Faults.{Refused}
use Rattle.written.specs.Blocks.{little_endian, Below32, total}
use Rattle.written.specs.Said.{Tree, TreePlace, Text, Layout}
use Rattle.written.specs.Tables.{LinesOf}
use Rattle.written.specs.Models.{Model, model_number, Models, TextOf, NoTextOf}

-- ---- rows

-- the numbers of a model's rows: model, where the tree's {*} stands, the lines of its row
pub data TrailerRows (m : ℕ) : List Tree → List TreePlace → List ℕ → Type 0 where
  none : TrailerRows m [] [] []
  more : {t : Tree} {u : TreePlace} {ts : List Tree} {us : List TreePlace} {n : ℕ} {ns : List ℕ}
      → LinesOf t.body n → TrailerRows m ts us ns → TrailerRows m (t ∷ ts) (u ∷ us) (m ∷ u.star ∷ n ∷ ns)

module _ (s : List ℕ) (h : Header) where
  -- of models, one after the other
  pub data VoiceRows : List Model → List ℕ → Type 0 where
    end : VoiceRows [] []
    next : {m : Model} {ms : List Model} {t : Text} {l : Layout} {ns more : List ℕ}
        → TextOf s h m t l → TrailerRows (model_number m) t.trees l.trees ns → VoiceRows ms more → VoiceRows (m ∷ ms) (ns ++ more)

  -- the first model whose text is refused: number and place
  pub data NoVoiceRows : List Model → ℕ → ℕ → Type 0 where
    here : {m : Model} {ms : List Model} {n p : ℕ} → NoTextOf s h m n p → NoVoiceRows (m ∷ ms) n p
    later : {m : Model} {ms : List Model} {t : Text} {l : Layout} {n p : ℕ} → TextOf s h m t l → NoVoiceRows ms n p → NoVoiceRows (m ∷ ms) n p

-- ---- the trailer

-- bytes added with wrap-around at 2^32
unfoldable pub sum32 : List ℕ → ℕ
sum32 s = total s % 2 ^ 32

-- what stands between a file and the sum: the rows, their count, the file offset where they begin
abbrev pub unsummed : List ℕ → List ℕ → ℕ → List ℕ
unsummed file rows count = little_endian (rows ++ (count ∷ length file ∷ []))

-- the trailer of a file with these rows: at the very end their count, where they begin, and the sum of every earlier byte
pub record Trailer (file rows trailer : List ℕ) : Type 0 where
  pub count : ℕ
  pub threes : length rows ≡ 3 * count
  pub below : Below32 (rows ++ (count ∷ length file ∷ []))
  pub whole : trailer ≡ unsummed file rows count ++ little_endian (sum32 (file ++ unsummed file rows count) ∷ [])

-- the file ends in a trailer with these rows, which begin at `begin`
pub record EndsIn (file rows : List ℕ) (begin : ℕ) : Type 0 where
  pub before : List ℕ
  pub trailer : List ℕ
  pub whole : file ≡ before ++ trailer
  pub says : Trailer before rows trailer
  pub begins : begin ≡ length before

-- the file ends in a trailer that is its text's
pub record Trailed (file rows : List ℕ) (begin : ℕ) : Type 0 where
  pub record_of : Header
  pub models : List Model
  pub opens : Says file record_of
  pub of_voice : Models file record_of models
  pub long : 12 ≤ record_of.datum.len
  pub text : VoiceRows file record_of models rows
  pub ends : EndsIn file rows begin

-- the last four bytes are the sum of every earlier one
pub record Summed (file : List ℕ) : Type 0 where
  pub earlier : List ℕ
  pub whole : file ≡ earlier ++ little_endian (sum32 earlier ∷ [])

-- ---- writing and reading, each refusal where those before it don't hold. First those of opening; then, of a file that says the record h and has the models ms:

module _ (file : List ℕ) (h : Header) (ms : List Model) where
  -- writing: 13 to 18; 26: the buffer, of so many bytes, is too short, or the file would pass its limit
  pub data WritesOf (room : ℕ) : ℕ → ℕ → ℕ → List ℕ → Type 0 where
    no_text : {n p : ℕ} → NoVoiceRows file h ms n p → WritesOf room n p 0 []
    no_room : {rows trailer : List ℕ}
        → VoiceRows file h ms rows → Trailer file rows trailer → (room < length trailer) ⊎ (file_limit < length file + length trailer)
        → WritesOf room 26 0 (length trailer) []
    written : {rows trailer : List ℕ}
        → VoiceRows file h ms rows → Trailer file rows trailer → length trailer ≤ room → length file + length trailer ≤ file_limit
        → WritesOf room 0 0 (length trailer) trailer

  -- reading: 26: fewer than 12 data bytes; 27: the sum differs; 13 to 18; 28: the rows don't end where the three numbers begin, or aren't the text's
  pub data FindsOf : ℕ → ℕ → List ℕ → ℕ → Type 0 where
    short : h.datum.len < 12 → FindsOf 26 0 [] 0
    sum : 12 ≤ h.datum.len → ¬ Summed file → FindsOf 27 0 [] 0
    no_text : {n p : ℕ} → 12 ≤ h.datum.len → Summed file → NoVoiceRows file h ms n p → FindsOf n p [] 0
    other : {rows : List ℕ}
        → 12 ≤ h.datum.len → Summed file → VoiceRows file h ms rows → ((begin : ℕ) → ¬ EndsIn file rows begin) → FindsOf 28 0 [] 0
    found : {rows : List ℕ} {begin : ℕ} → 12 ≤ h.datum.len → Summed file → VoiceRows file h ms rows → EndsIn file rows begin → FindsOf 0 0 rows begin

-- number, place, how many bytes the trailer has (told with 0 and 26), and the bytes that are written to the front of the buffer
pub data Writes (file : List ℕ) (room : ℕ) : ℕ → ℕ → ℕ → List ℕ → Type 0 where
  unopened : {n p : ℕ} → Refused file n p → Writes file room n p 0 []
  opened : {h : Header} {ms : List Model} {n p size : ℕ} {trailer : List ℕ}
      → Says file h → Models file h ms → WritesOf file h ms room n p size trailer → Writes file room n p size trailer

-- number, place, the numbers of the rows, three a row, and where they begin
pub data Finds (file : List ℕ) : ℕ → ℕ → List ℕ → ℕ → Type 0 where
  unopened : {n p : ℕ} → Refused file n p → Finds file n p [] 0
  opened : {h : Header} {ms : List Model} {n p begin : ℕ} {rows : List ℕ}
      → Says file h → Models file h ms → FindsOf file h ms n p rows begin → Finds file n p rows begin

-- the record of a file with n bytes more of data
abbrev pub longer : Header → ℕ → Header
longer h n =
    record {
      global = h.global;
      streams = h.streams;
      duration_pdf = h.duration_pdf;
      duration_tree = h.duration_tree;
      positions = h.positions;
      datum = record { start = h.datum.start; len = h.datum.len + n };
    }

-- and with n bytes less
abbrev pub shorter : Header → ℕ → Header
shorter h n =
    record {
      global = h.global;
      streams = h.streams;
      duration_pdf = h.duration_pdf;
      duration_tree = h.duration_tree;
      positions = h.positions;
      datum = record { start = h.datum.start; len = h.datum.len - n };
    }
