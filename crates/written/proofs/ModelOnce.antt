-- A model links in one way, is refused in one way, and never both: `written`'s laws of one tree, carried over its trees.
use mathlib.Core.Path.{◌≡◌, refl, sym, ap, ap₂, ◌∙◌}
use mathlib.Core.List.{List, [], ◌∷◌, ◌++◌}
use Prim.Native.Nat.{ℕ, suc, ◌+◌}
use lib.ListN.{length}
use Rattle.written.specs.Said.{Body, Tree, Question}
use Rattle.written.specs.Linking.{Row}
use Rattle.written.specs.Tables.{LinesOf, single, lines, TreeRows, none, more, ModelRefused, here, later}
use Rattle.written.proofs.Link.{refused_no_records, refused_once, records_once}

pub lines_once : {t : Body} {k m : ℕ} → LinesOf t k → LinesOf t m → k ≡ m
lines_once (single s) (single u) = refl
lines_once (single {r = r} s) (lines o) = absurd (o r s)
lines_once (lines o) (single {r = r} s) = absurd (o r s)
lines_once (lines o) (lines q) = refl

pub model_rows_once : {qs : List Question} {f g : ℕ} {ts : List Tree} {trees records others rest : List Row} → TreeRows qs f ts trees records → TreeRows qs g ts others rest → f ≡ g
    → (trees ≡ others) × (records ≡ rest)
model_rows_once none none e = (refl, refl)
model_rows_once {f = f} {g = g} (more {n = n} {m = m} {rows = rows} s r l w) (more {n = k} {m = j} {rows = rest} u q d v) e =
    let a : rows ≡ rest = records_once r q in
    let z = model_rows_once w v (ap₂ (λ (a b : ℕ). a + b) e (ap length a)) in
    let x = sym s ∙ u in
    let b : n ≡ k = cc in
    let c : m ≡ j = lines_once l d in
    (λ i. (b i ∷ e i ∷ length (a i) ∷ c i ∷ []) ∷ z.0 i, ap₂ ◌++◌ a z.1)

pub model_refused_once : {qs : List Question} {ts : List Tree} {c d a b k m : ℕ} → ModelRefused qs ts c a k → ModelRefused qs ts d b m → (c ≡ d) × (a ≡ b) × (k ≡ m)
model_refused_once (here h) (here g) = let z = refused_once h g in (z.0, refl, z.1)
model_refused_once (here h) (later r w) = absurd (refused_no_records h r)
model_refused_once (later r w) (here h) = absurd (refused_no_records h r)
model_refused_once (later r w) (later q v) = let z = model_refused_once w v in (z.0, ap suc z.1, z.2)

pub model_never_both : {qs : List Question} {f : ℕ} {ts : List Tree} {trees records : List Row} {c a k : ℕ} → TreeRows qs f ts trees records → ModelRefused qs ts c a k → ⊥
model_never_both (more s r l w) (here h) = refused_no_records h r
model_never_both (more s r l w) (later q v) = model_never_both w v
model_never_both {qs = qs} {c = c} {a = a} {k = k} (none {f = f}) x6 = elim x6 [ ]
