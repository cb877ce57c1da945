-- `larsavim_bare_walk` keeps its promise, which allows one outcome; a refusal counts 0; the count is exact and bounded; and for every text whose model loads, every tree number, all answers and
-- every limit it says the number, the PDF number and the questions asked that `larsavim_walk` says over the loaded tables.
use mathlib.Core.Path.{◌≡◌, refl, sym, ap, ◌∙◌, subst}
use mathlib.Core.List.{List, [], ◌∷◌, flatten}
use Prim.Native.Nat.{ℕ, ◌+◌, ◌*◌, ◌≤◌, ◌<◌, min}
use native.Mathlib.Omega.{arith}
use lib.ListN.{length, take, drop, length-take}
use lib.Seq.{sets, take_all}
use Rattle.written.specs.Said.{Body, Line, Tree, Text, Layout}
use Rattle.written.specs.TreeText.{Says}
use Rattle.written.specs.Linking as linking
use Rattle.written.specs.Linking.{Nth, Row, Refused}
use Rattle.written.specs.Tables.{TreeRows, folded}
use Rattle.written.specs.Models as models
use Rattle.written.specs.Models.{data_of}
use Rattle.written.specs.Record as record_of
use Rattle.written.specs.Loading.{ModelSaid, ReadsModel}
use Rattle.written.specs.Walks.{Outcome, refused, LoadedTree}
use Rattle.written.specs.Meter as meter
use Rattle.written.specs.Meter.{Metered, Meter, Over, meter_of, meter_refused, MetersText, Meters}
use Rattle.written.proofs.Once.{says_once}
use Rattle.written.proofs.Walk.{nth_once}
use Rattle.written.proofs.Link.{records_linked, refused_no_records, refused_once}
use Rattle.written.proofs.Folded.{wide_text, wide_folded, length-folded}
use Rattle.written_total.proofs.Broken.{breaks_silent, breaks_once}
use Rattle.written_alone.proofs.Metering as metering
use Rattle.written_alone.proofs.Metering.{lines_in, read_in, over_read, over_exact, over_once}
use Rattle.written_alone.proofs.Shifted.{says_alone}
use Rattle.laws.proofs.Nth.{nth_inside, nth_of}
use Rattle.table_rows.specs.Rows.{tree_table}
use Rattle.table_rows.proofs.Fours.{tree_table_lem}
use Rattle.tree_survey.proofs.Rows.{rows_counted}
use Rattle.load_model.specs.Load.{Tables}
use Rattle.walk.specs.Walking.{walk_of}
use Rattle.walk.specs.Answer as answer
use Rattle.walk.proofs.Loaded.{loaded_walk}
use Rattle.walk_bare.specs.Bare.{BareTells, no_room, told, bare_numbers}
use Rattle.walk_bare.specs.declared.Meter as code
use Rattle.larsavim.specs.Face.{Opens, Loads, Walks}
use Rattle.shown_text.proofs.Walks.{loaded_linked}
use Rattle.shown_bare.proofs.Metered.{bare_says}
use Rattle.shown_bare.proofs.Loads.{over_tables}
use Rattle.promises.specs.Loading.{widening, Room, stored}
use Rattle.promises.specs.Walking as walking
use Rattle.promises.specs.Walking.{AfterWalk}
use Rattle.promises.specs.Metering.{AfterBare, short_out, metered, meter_numbers, SameWalk}
use Rattle.promises.proofs.Moved.{moved₂}
use Rattle.promises.proofs.Walking.{walk_kept}
use Rattle.promises.proofs.Walked.{LoadedZero, found, blocks, trees_cut, records_cut, tree_linked}

-- ---- the promise

pub bare_kept : {s : List ℕ} {t : ℕ} {bytes : List ℕ} {limit : ℕ} {out : List ℕ} {r : ℕ} {o : List ℕ} → BareTells s t bytes limit out r o → AfterBare s t bytes limit out r o
bare_kept {s} {t} {bytes} {limit} {out} (no_room h a b) = moved₂ (AfterBare s t bytes limit out) a b (short_out h)
bare_kept {s} {t} {bytes} {limit} {out} (told h a b) =
    let k = bare_says s t bytes limit in
    moved₂ (AfterBare s t bytes limit out) (a ∙ ap (λ (x : code.Meter). x.number) k.tells) (b ∙ ap (λ (x : code.Meter). sets out 0 (bare_numbers x)) k.tells) (metered h k.said)

-- ---- one outcome

module _ (x : Text) (bytes : List ℕ) (t m : ℕ) where
  body_is : {e e' : Tree} → Nth x.trees t e → Nth x.trees t e' → e.body ≡ e'.body
  body_is h g = ap (λ (e : Tree). e.body) (nth_once h g)

  refused_at : {e e' : Tree} {c k : ℕ} → Nth x.trees t e → Nth x.trees t e' → Refused x.questions e.body c k → Refused x.questions e'.body c k
  refused_at {c = c} {k = k} h g r = subst (λ (b : Body). Refused x.questions b c k) (body_is h g) r

  meters_text_once : {a b : Meter} → MetersText bytes x t m a → MetersText bytes x t m b → a ≡ b
  meters_text_once (MetersText.negative n) (MetersText.negative o) = refl
  meters_text_once (MetersText.negative n) (MetersText.missing o g) = absurd (o n)
  meters_text_once (MetersText.negative n) (MetersText.unlinked o g r) = absurd (o n)
  meters_text_once (MetersText.negative n) (MetersText.walks o g r w) = absurd (o n)
  meters_text_once (MetersText.missing n h) (MetersText.negative o) = absurd (n o)
  meters_text_once (MetersText.missing n h) (MetersText.missing o g) = refl
  meters_text_once (MetersText.missing n h) (MetersText.unlinked {e = e} o g r) = absurd (h e g)
  meters_text_once (MetersText.missing n h) (MetersText.walks {e = e} o g r w) = absurd (h e g)
  meters_text_once (MetersText.unlinked n h r) (MetersText.negative o) = absurd (n o)
  meters_text_once (MetersText.unlinked {e = e} n h r) (MetersText.missing o g) = absurd (g e h)
  meters_text_once (MetersText.unlinked n h r) (MetersText.unlinked o g w) = let z = refused_once (refused_at h g r) w in λ i. meter_refused (z.0 i) t (z.1 i)
  meters_text_once (MetersText.unlinked n h r) (MetersText.walks o g q w) = absurd (refused_no_records (refused_at h g r) q)
  meters_text_once (MetersText.walks n h r w) (MetersText.negative o) = absurd (n o)
  meters_text_once (MetersText.walks {e = e} n h r w) (MetersText.missing o g) = absurd (g e h)
  meters_text_once (MetersText.walks n h r w) (MetersText.unlinked o g q) = absurd (refused_no_records (refused_at g h q) r)
  meters_text_once (MetersText.walks {e = e} {w = u} n h r w) (MetersText.walks {w = v} o g q z) =
      ap meter_of (over_once (records_linked q) (subst (λ (b : Body). Over x.questions bytes b m u) (body_is h g) w) z)

pub meters_once : {s bytes : List ℕ} {t m : ℕ} {a b : Meter} → Meters s 0 bytes t m a → Meters s 0 bytes t m b → a ≡ b
meters_once (Meters.breaks x) (Meters.breaks y) = ap (λ (p : ℕ). meter_refused 17 p 0) (breaks_once x y)
meters_once (Meters.breaks x) (Meters.says h w) = absurd (breaks_silent x h)
meters_once (Meters.says h w) (Meters.breaks y) = absurd (breaks_silent y h)
meters_once {bytes = bytes} {t = t} {m = m} {a = a} (Meters.says h w) (Meters.says g v) = meters_text_once _ bytes t m (subst (λ (x : Text). MetersText bytes x t m a) (says_once h g).0 w) v

pub after_bare_once : {s : List ℕ} {t : ℕ} {bytes : List ℕ} {limit : ℕ} {out : List ℕ} {r r' : ℕ} {o o' : List ℕ} → AfterBare s t bytes limit out r o → AfterBare s t bytes limit out r' o' → (r ≡ r') × (o ≡ o')
after_bare_once (short_out a) (short_out b) = (refl, refl)
after_bare_once (short_out a) (metered b x) = absurd (omega arith)
after_bare_once (metered a x) (short_out b) = absurd (omega arith)
after_bare_once {out = out} (metered a x) (metered b y) = let z = meters_once x y in (ap (λ (m : Meter). m.number) z, ap (λ (m : Meter). sets out 0 (meter_numbers m)) z)

-- ---- the count

-- refused: no PDF, no question, no line
pub record NothingCounted (m : Meter) : Type 0 where
  pub pdf : m.pdf ≡ 0
  pub asked : m.asked ≡ 0
  pub lines : m.lines ≡ 0

ended-counts : (w : Metered) → ¬ ((meter_of w).number ≡ 0) → NothingCounted (meter_of w)
ended-counts (meter.at p a r) h = absurd (h refl)
ended-counts (meter.refused c) h = record { pdf = refl; asked = refl; lines = refl }

pub refused_counts : {s bytes : List ℕ} {t m : ℕ} {a : Meter} → Meters s 0 bytes t m a → ¬ (a.number ≡ 0) → NothingCounted a
refused_counts (Meters.breaks x) h = record { pdf = refl; asked = refl; lines = refl }
refused_counts {bytes = bytes} {t = t} {m = m} (Meters.says {x = x} g w) h = go w h
  where
    go : {a : Meter} → MetersText bytes x t m a → ¬ (a.number ≡ 0) → NothingCounted a
    go (MetersText.negative n) h = record { pdf = refl; asked = refl; lines = refl }
    go (MetersText.missing n f) h = record { pdf = refl; asked = refl; lines = refl }
    go (MetersText.unlinked n f r) h = record { pdf = refl; asked = refl; lines = refl }
    go (MetersText.walks {w = w} n f r o) h = ended-counts w h

-- the tree that was walked: its lines are counted exactly, and within its written lines times one more than the questions asked
pub record Counted (s : List ℕ) (t : ℕ) (a : Meter) : Type 0 where
  pub text : Text
  pub layout : Layout
  pub tree : Tree
  pub read : Says s 0 text layout
  pub stands : Nth text.trees t tree
  pub exact : a.lines ≡ read_in tree.body a.asked
  pub bounded : a.lines ≤ lines_in tree.body * (a.asked + 1)

pub walk_counts : {s bytes : List ℕ} {t m : ℕ} {a : Meter} → Meters s 0 bytes t m a → a.number ≡ 0 → Counted s t a
walk_counts (Meters.breaks x) h = absurd (omega (arith, h))
walk_counts {s} {bytes} {t} {m} (Meters.says {x = x} {u = u} g w) h = go w h
  where
    ended : (w : Metered) {e : Tree} → Nth x.trees t e → Over x.questions bytes e.body m w → (meter_of w).number ≡ 0 → Counted s t (meter_of w)
    ended (meter.at p a r) {e} n o h = record { text = x; layout = u; tree = e; read = g; stands = n; exact = over_exact o refl; bounded = over_read o refl }
    ended (meter.refused c) {e} n o h = refused_over o refl
      where
        refused_over : {w : Metered} → Over x.questions bytes e.body m w → w ≡ meter.refused c → Counted s t (meter_refused c 0 0)
        refused_over o q = zero_refused (never_zero_over o q) h
          where
            zero_refused : 0 < c → c ≡ 0 → Counted s t (meter_refused c 0 0)
            zero_refused k z = absurd (omega arith)

            along_number : {ls : List Line} {k l : ℕ} {w : Metered} → meter.Along x.questions bytes ls k l w → {d : ℕ} → w ≡ meter.refused d → 0 < d
            along_number (meter.Along.unanswered a b f) {d} e = let z : 24 ≡ d = cc in omega arith
            along_number (meter.Along.met a b f) {d} e = let z : 25 ≡ d = cc in omega arith
            along_number (meter.Along.ends a b f i) {d} e = let z : ◌≡◌ {A = ℕ} 0 1 = cc in absurd (omega arith)
            along_number {ls} (meter.Along.goes {e = w} a b f i j k) {d} e = on (length ls) w refl e (λ q. along_number k q)
              where
                on : (y : ℕ) (v : Metered) → w ≡ v → meter.before y v ≡ meter.refused d → (w ≡ meter.refused d → 0 < d) → 0 < d
                on n (meter.at p q r) z e f = let y : ◌≡◌ {A = ℕ} 0 1 = cc in absurd (omega arith)
                on n (meter.refused q) z e f = f (z ∙ e)

            never_zero_over : {b : Body} {w : Metered} → Over x.questions bytes b m w → w ≡ meter.refused c → 0 < c
            never_zero_over meter.Over.alone e = let z : ◌≡◌ {A = ℕ} 0 1 = cc in absurd (omega arith)
            never_zero_over (meter.Over.alike a b) e = let z : ◌≡◌ {A = ℕ} 0 1 = cc in absurd (omega arith)
            never_zero_over meter.Over.empty e = let z : 24 ≡ c = cc in omega arith
            never_zero_over (meter.Over.lines {e = w} a f) e = on w refl e (λ q. along_number f q)
              where
                on : (v : Metered) → w ≡ v → meter.reading 1 v ≡ meter.refused c → (w ≡ meter.refused c → 0 < c) → 0 < c
                on (meter.at p q r) z e g = let y : ◌≡◌ {A = ℕ} 0 1 = cc in absurd (omega arith)
                on (meter.refused q) z e g = g (z ∙ e)

    refused_number : {b : Body} {c k : ℕ} → Refused x.questions b c k → 20 < c
    refused_number (Refused.single s) = omega arith
    refused_number (Refused.lines o h f g) = fault f
      where
        fault : {ls : List Line} {l : Line} {c : ℕ} → linking.Fault x.questions ls l c → 20 < c
        fault (linking.Fault.yes_undeclared u) = omega arith
        fault (linking.Fault.no_undeclared u w) = omega arith
        fault (linking.Fault.not_asked u w z) = omega arith

    go : {a : Meter} → MetersText bytes x t m a → a.number ≡ 0 → Counted s t a
    go (MetersText.negative n) h = absurd (omega (arith, h))
    go (MetersText.missing n f) h = absurd (omega (arith, h))
    go (MetersText.unlinked n f r) h = absurd (omega (arith, h, refused_number r))
    go (MetersText.walks {w = w} n f r o) h = ended w f o h

-- ---- the walk over the loaded tables

-- number, PDF number and questions asked are those of an outcome, and there is no place
data Agrees (a : Meter) : Outcome → Type 0 where
  at : {n k : ℕ} → a.number ≡ 0 → a.place ≡ 0 → a.line ≡ 0 → a.pdf ≡ n → a.asked ≡ k → Agrees a (Outcome.at n k)
  stopped : {c : ℕ} → a.number ≡ c → a.place ≡ 0 → a.line ≡ 0 → a.pdf ≡ 0 → a.asked ≡ 0 → Agrees a (refused c)

ended_agrees : (w : Metered) → Agrees (meter_of w) (metering.outcome_of w)
ended_agrees (meter.at p a r) = at refl refl refl refl refl
ended_agrees (meter.refused c) = stopped refl refl refl refl refl

module _ {s : List ℕ} {h : record_of.Header} {m : models.Model} {t : Tables} {x : ModelSaid} {l : Layout} {trees records : List Row}
    (read : ReadsModel widening s h m x l) (room : Room x t) (rows : TreeRows x.text.questions 0 x.text.trees trees records) where
  abbrev T : List ℕ
  T = take (6 * length x.text.trees) (stored t x l trees records).trees

  abbrev R : List ℕ
  R = take (4 * length records) (stored t x l trees records).records

  -- what the text of the model says by itself
  abbrev text_alone : List ℕ
  text_alone = drop read.text_at.from (take (read.text_at.to + 1) (data_of s h))

  alone_says : (k : Layout) × Says text_alone 0 x.text k
  alone_says = says_alone read.text_at.from (take (read.text_at.to + 1) (data_of s h)) (let w = read.text_inside in omega (arith, w, length-take (read.text_at.to + 1) (data_of s h))) read.text_says refl

  tables_agree : {i : ℕ} {bytes : List ℕ} {most : ℕ} {a : Meter} → MetersText bytes x.text i most a → Agrees a (answer.outcome_of (walk_of T R i bytes most))
  tables_agree (MetersText.negative n) = absurd (read.natural n)
  tables_agree {i} {bytes} {most} (MetersText.missing n f) =
      subst (Agrees (meter_refused 24 0 0)) (loaded_walk T R i bytes most (LoadedTree.missing none)) (stopped refl refl refl refl refl)
    where
      table : tree_table T ≡ folded trees x.rows
      table = ap tree_table (trees_cut read room rows) ∙ tree_table_lem (folded trees x.rows) (wide_folded trees x.rows (wide_text rows))

      none : (r : Row) → ¬ Nth (tree_table T) i r
      none r g =
          let b = nth_inside (subst (λ (z : List Row). Nth z i r) table g) in
          let k = nth_of x.text.trees i (omega (arith, b, length-folded trees x.rows (sym (blocks read room rows)), (rows_counted rows).0)) in f k.0 k.1
  tables_agree (MetersText.unlinked n f r) = absurd (refused_no_records r (tree_linked rows f).1)
  tables_agree {i} {bytes} {most} (MetersText.walks {w = w} n f r o) =
      let k = loaded_linked rows x.rows (blocks read room rows) T R
      (ap (take (length (flatten (folded trees x.rows)))) (trees_cut read room rows) ∙ take_all (length (flatten (folded trees x.rows))) (flatten (folded trees x.rows)) (omega arith))
      (ap (take (length (flatten records))) (records_cut read room rows) ∙ take_all (length (flatten records)) (flatten records) (omega arith)) f in
      subst (Agrees (meter_of w)) (over_tables k.1 k.2 o) (ended_agrees w)

  meters_agree : {i : ℕ} {bytes : List ℕ} {most : ℕ} {a : Meter} → Meters text_alone 0 bytes i most a → Agrees a (answer.outcome_of (walk_of T R i bytes most))
  meters_agree (Meters.breaks b) = absurd (breaks_silent b alone_says.1)
  meters_agree {i} {bytes} {most} {a} (Meters.says g w) = tables_agree (subst (λ (z : Text). MetersText bytes z i most a) (says_once g alone_says.1).0 w)

  pub same_walk : {i : ℕ} {bytes : List ℕ} {most : ℕ} {out : List ℕ} → 3 ≤ length out → {r : ℕ} {o : List ℕ} → AfterWalk T R i bytes most out r o
      → {bare-out : List ℕ} → 6 ≤ length bare-out → {b : ℕ} {e : List ℕ} → AfterBare text_alone i bytes most bare-out b e → SameWalk out r o bare-out b e
  same_walk long (walking.short_out a) wide y = absurd (omega arith)
  same_walk long (walking.ended a v) wide (short_out b) = absurd (omega arith)
  same_walk {i} {bytes} {most} {out} long (walking.ended {n = n} {k = k} a v) {bare-out} wide (metered {m = g} b w) =
      go (subst (Agrees g) (sym (loaded_walk T R i bytes most v)) (meters_agree w))
    where
      go : Agrees g (Outcome.at n k) → SameWalk out 0 (sets out 0 (0 ∷ n ∷ k ∷ [])) bare-out g.number (sets bare-out 0 (meter_numbers g))
      go (at c d e f j) =
          record {
            number = 0;
            pdf = n;
            asked = k;
            read = min g.lines 18446744073709551615;
            walk_returns = refl;
            walk_says = refl;
            bare_returns = c;
            bare_says = λ z. sets bare-out 0 (c z ∷ d z ∷ e z ∷ f z ∷ j z ∷ min g.lines 18446744073709551615 ∷ []);
          }
  same_walk long (walking.stopped a v) wide (short_out b) = absurd (omega arith)
  same_walk {i} {bytes} {most} {out} long (walking.stopped {c = c} a v) {bare-out} wide (metered {m = g} b w) =
      go (subst (Agrees g) (sym (loaded_walk T R i bytes most v)) (meters_agree w))
    where
      go : Agrees g (refused c) → SameWalk out c (sets out 0 (c ∷ 0 ∷ 0 ∷ [])) bare-out g.number (sets bare-out 0 (meter_numbers g))
      go (stopped q d e f j) =
          record {
            number = c;
            pdf = 0;
            asked = 0;
            read = min g.lines 18446744073709551615;
            walk_returns = refl;
            walk_says = refl;
            bare_returns = q;
            bare_says = λ z. sets bare-out 0 (q z ∷ d z ∷ e z ∷ f z ∷ j z ∷ min g.lines 18446744073709551615 ∷ []);
          }

-- A file of bytes is opened with 0 and a model of it loaded with 0; whichever tree, answers and limit: walked over the loaded tables, cut to the load's answer, and straight over the text of the
-- model by itself, the calls say the same.
module _ (s w out w' o : List ℕ) (open-call : Opens s w out 0 w' o) (m : models.Model) (t : Tables) (out₁ : List ℕ) (t' : Tables) (o₁ : List ℕ)
    (load-call : Loads s w' (models.model_number m) t out₁ 0 t' o₁) where
  abbrev k : LoadedZero s (found s w out w' o open-call m t out₁ t' o₁ load-call).0 m t out₁ t' o₁
  k = (found s w out w' o open-call m t out₁ t' o₁ load-call).2

  pub meter_loads : (i : ℕ) (answers : List ℕ) (most : ℕ) (out₂ : List ℕ) → 3 ≤ length out₂ → {r : ℕ} {o₂ : List ℕ}
      → Walks (take (6 * length k.x.text.trees) t'.trees) (take (4 * length k.records) t'.records) i answers most out₂ r o₂
      → (out₃ : List ℕ) → 6 ≤ length out₃ → {b : ℕ} {o₃ : List ℕ} → BareTells (text_alone k.read k.room k.rows) i answers most out₃ b o₃ → SameWalk out₂ r o₂ out₃ b o₃
  meter_loads i answers most out₂ long {r} {o₂} c out₃ wide y =
      let e = subst (λ (u : Tables). Walks (take (6 * length k.x.text.trees) u.trees) (take (4 * length k.records) u.records) i answers most out₂ r o₂) k.tables c in
      same_walk k.read k.room k.rows long (walk_kept _ _ i answers most out₂ e) wide (bare_kept y)
