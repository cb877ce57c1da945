-- The groups of a section, collected row by row into the first eight places of a struct, answer as `written` says: groups by first appearance, each of which
-- says what stands for it; or the first group that has a fault. Over any struct that holds them.
use mathlib.Core.Path.{◌≡◌, refl, sym, ap, ap₂, ◌∙◌, subst}
use mathlib.Core.Bool.{Bool, true, false, cond}
use mathlib.Core.List.{List, [], ◌∷◌, ◌++◌, map, append-nil, append_assoc}
use Prim.Native.Nat.{ℕ, ◌+◌, ◌≤◌, ◌<◌}
use native.Mathlib.Omega.{arith}
use native.Mathlib.Decide.{dec_lt}
use borrow.Author.Tests.{lt-ltb, le-ltb}
use lib.Dec.{ltb}
use lib.ListN.{length, set, length-append}
use Rattle.std.specs.Prelude.{Result, Ok, Err, ⊤}
use Rattle.written.specs.Bytes as written
use Rattle.written.specs.Bytes.{same, part}
use Rattle.written.specs.HeaderText.{Field, Entry}
use Rattle.written.specs.Groups as says
use Rattle.written.specs.Groups.{Group, Grouped, of_group, name_of, Pointwise, none, more}
use Rattle.written.specs.Record.{All, next, GroupSays}
use Rattle.written.specs.Faults.{Missing, NoGroup, NoGroups}
use Rattle.written.proofs.Tests.{differ}
use Rattle.written_total.proofs.Total.{same_true}
use Rattle.error.specs.Numbers as error
use Rattle.error.specs.declared.Refusal.{Refusal}
use Rattle.head_record.specs.Empty.{no_span}
use Rattle.head_record.specs.Lists.{filled, span_of}
use Rattle.text_parts.specs.declared.Span.{Span}
use Rattle.head_record.proofs.Filled.{filled_with, filled_past}
use Rattle.head_brackets.specs.Rows.{Going, on, stop_with, over, names_with, known_from, known_in}
use Rattle.text_parts.specs.Parts.{bytes_of}
use Rattle.head_brackets.specs.declared.Row.{Row}
use Rattle.head_brackets.specs.declared.Names.{Names}
use Rattle.head_brackets.proofs.Rows.{over_on, over_stop, over_none}
use Rattle.shown_groups.specs.Said.{span_said, row_said}
use Rattle.shown_groups.proofs.Lines.{Standing}
use Rattle.shown_groups.proofs.Names.{known, unknown, of_group_past, unknown_past, grouped_new, grouped_always, known_last, known_fewer, known_so, known_not}

all_more : {A : Type 0} {P : A → Type 0} {l : List A} {a : A} → All P l → P a → All P (l ++ (a ∷ []))
all_more All.end p = next p All.end
all_more (next q h) p = next q (all_more h p)

map_more : {A B : Type 0} (f : A → B) (l : List A) (a : A) → map f (l ++ (a ∷ [])) ≡ map f l ++ (f a ∷ [])
map_more f [] a = refl
map_more f (b ∷ l) a = ap (λ (m : List _). f b ∷ m) (map_more f l a)

-- ---- the group of a row, in the rows `whole` of a section

abbrev pub group_for : List ℕ → List Row → Row → Group
group_for s whole r = record { name = name_of (row_said s r); rows = of_group (bytes_of s r.name) (map (row_said s) whole) }

module _ {D E : Type 0} (name : E → written.Span) (made : E → D) (T : List Field) (Say : Group → List Entry → E → Type 0) (s : List ℕ) (whole : List Row) (verdictOf : Span → (Result ⊤ Refusal)) (item_of : Span → D) where
  pub data OneGroup (r : Row) : Type 0 where
    one_said : (e : E) → verdictOf r.name ≡ Ok tt → item_of r.name ≡ made e → name e ≡ span_said r.name → GroupSays T Say s (group_for s whole r) e → OneGroup r
    one_faulty : (q : Refusal) → verdictOf r.name ≡ Err q → NoGroup T s (group_for s whole r).rows (error.number_of q) (error.place_of q) → OneGroup r

-- ---- a struct x with the names and the items of its groups, the first eight; es are the groups of `written` that it has

module _ {X D E : Type 0} (names : X → Names) (items : X → List D) (name : E → written.Span) (made : E → D) (empty : D) where
  pub record Holds (x : X) (es : List E) : Type 0 where
    pub named : (names x).items ≡ filled 8 no_span (map (λ e. span_of (name e)) es)
    pub few : length es ≤ 8 → (names x).count ≡ length es
    pub many : 8 < length es → (names x).count ≡ 9
    pub stored : items x ≡ filled 8 empty (map made es)

  pub data GroupsAnswer (T : List Field) (Say : Group → List Entry → E → Type 0) (s : List ℕ) (es : List E) (rs : List Row) : Going X → Type 0 where
    all_said : {x : X} {gs : List Group} (fs : List E) → Grouped (unknown (map (λ e. part s (name e).start (name e).len) es) (map (row_said s) rs)) gs → Pointwise (GroupSays T Say s) gs fs → Holds x (es ++ fs) → GroupsAnswer T Say s es rs (on x)
    first_faulty : {q : Refusal} {gs : List Group} → Grouped (unknown (map (λ e. part s (name e).start (name e).len) es) (map (row_said s) rs)) gs → NoGroups T s gs (error.number_of q) (error.place_of q) → GroupsAnswer T Say s es rs (stop_with q)

  module _ (nameIn : D → Span) (with : X → D → X) (names-with : (x : X) (d : D) → names (with x d) ≡ names_with (names x) (nameIn d))
      (items-with : (x : X) (d : D) → items (with x d) ≡ cond (ltb (names x).count 8) (set (items x) (names x).count d) (items x)) (name-made : (e : E) → nameIn (made e) ≡ span_of (name e)) where
    count_past : {x : X} {es : List E} → Holds x es → 8 ≤ length es → 8 ≤ (names x).count
    count_past {x} {es} h l = go (dec_lt 8 (length es))
      where
        go : Dec (8 < length es) → 8 ≤ (names x).count
        go (yes k) = omega (arith, h.many k)
        go (no k) = omega (arith, h.few (omega arith))

    past : {x : X} {es : List E} → Holds x es → 8 ≤ length es → (d : D) → ((names (with x d)).items ≡ (names x).items) × ((names (with x d)).count ≡ 9) × (items (with x d) ≡ items x)
    unfolding names_with
    past {x} h l d =
        let c = le-ltb (names x).count 8 (count_past h l) in
        let n : names (with x d) ≡ record { items = (names x).items; count = 9 } =
        names-with x d ∙ ap (λ (t : Bool). cond t (record { items = set (names x).items (names x).count (nameIn d); count = (names x).count + 1 }) (record { items = (names x).items; count = 9 })) c in
        (ap (λ (m : Names). m.items) n, ap (λ (m : Names). m.count) n, items-with x d ∙ ap (λ (t : Bool). cond t (set (items x) (names x).count d) (items x)) c)

    -- past the eighth nothing more is stored
    holds_again : {x : X} {es : List E} → Holds x es → 8 < length es → (d : D) → Holds (with x d) es
    holds_again {x} {es} h l d = let p = past h (omega arith) d in record { named = p.0 ∙ h.named; few = λ k. absurd (omega arith); many = λ k. p.1; stored = p.2 ∙ h.stored }

    holds_more : {x : X} {es : List E} → Holds x es → (e : E) → Holds (with x (made e)) (es ++ (e ∷ []))
    unfolding names_with
    holds_more {x} {es} h e = go (dec_lt (length es) 8)
      where
        more_long : length (es ++ (e ∷ [])) ≡ length es + 1
        more_long = length-append es (e ∷ [])

        go : Dec (length es < 8) → Holds (with x (made e)) (es ++ (e ∷ []))
        go (yes l) =
            let k : (names x).count ≡ length es = h.few (omega arith) in
            let c : ltb (names x).count 8 ≡ true = lt-ltb (names x).count 8 (omega arith) in
            let n : names (with x (made e)) ≡ record { items = set (names x).items (names x).count (nameIn (made e)); count = (names x).count + 1 } =
            names-with x (made e)
            ∙ ap (λ (t : Bool). cond t (record { items = set (names x).items (names x).count (nameIn (made e)); count = (names x).count + 1 }) (record { items = (names x).items; count = 9 })) c in
            let a : set (names x).items (names x).count (nameIn (made e)) ≡ filled 8 no_span (map (λ e. span_of (name e)) (es ++ (e ∷ []))) =
            (λ i. set (h.named i) (k i) (name-made e i)) ∙ filled_with no_span (λ e. span_of (name e)) 8 es e l in
            let b : set (items x) (names x).count (made e) ≡ filled 8 empty (map made (es ++ (e ∷ []))) = (λ i. set (h.stored i) (k i) (made e)) ∙ filled_with empty made 8 es e l in
            record {
              named = ap (λ (m : Names). m.items) n ∙ a;
              few = λ z. ap (λ (m : Names). m.count) n ∙ omega (arith, more_long);
              many = λ z. absurd (omega (arith, more_long));
              stored = items-with x (made e) ∙ ap (λ (t : Bool). cond t (set (items x) (names x).count (made e)) (items x)) c ∙ b;
            }
        go (no l) =
            let p = past h (omega arith) (made e) in
            record {
              named = p.0 ∙ h.named ∙ filled_past no_span (λ e. span_of (name e)) 8 es e (omega arith);
              few = λ z. absurd (omega (arith, more_long));
              many = λ z. p.1;
              stored = p.2 ∙ h.stored ∙ filled_past empty made 8 es e (omega arith);
            }

    -- ---- the groups of the rows `whole` of a section

    module _ (T : List Field) (Say : Group → List Entry → E → Type 0) (complete : (g : Group) (xs : List Entry) (e : E) → Say g xs e → ¬ Missing T xs) (s : List ℕ) (whole : List Row) (verdictOf : Span → (Result ⊤ Refusal)) (item_of : Span → D) where
      abbrev said : List Row → List says.Row
      said rs = map (row_said s) rs

      abbrev names_of : List E → List (List ℕ)
      names_of es = map (λ e. part s (name e).start (name e).len) es

      module _ (one-group : (r : Row) → Standing s r → OneGroup name made T Say s whole verdictOf item_of r) (alike : (x y : Span) → bytes_of s x ≡ bytes_of s y → verdictOf x ≡ verdictOf y)
          (step : X → Row → Going X) (after : X → Result ⊤ Refusal → D → Going X)
          (after-accepted : (x : X) (d : D) → after x (Ok tt) d ≡ on (with x d)) (after-refused : (x : X) (d : D) (q : Refusal) → after x (Err q) d ≡ stop_with q)
          (steps : (x : X) (r : Row) → step x r ≡ cond (known_in s (names x).items (names x).count (bytes_of s r.name)) (on x) (after x (verdictOf r.name) (item_of r.name))) where
        -- the groups that are held were read without fault
        abbrev Accepted : E → Type 0
        Accepted e = (y : Span) → bytes_of s y ≡ part s (name e).start (name e).len → verdictOf y ≡ Ok tt

        known_accepted : {es : List E} → All Accepted es → (y : Span) → known (names_of es) (bytes_of s y) ≡ true → verdictOf y ≡ Ok tt
        unfolding known
        known_accepted All.end y e = differ e refl
        known_accepted (next {a = a} {l = es} p h) y e = go (same (part s (name a).start (name a).len) (bytes_of s y)) refl e (λ f. known_accepted h y f)
          where
            go : (t : Bool) → same (part s (name a).start (name a).len) (bytes_of s y) ≡ t → cond t true (known (names_of es) (bytes_of s y)) ≡ true → (known (names_of es) (bytes_of s y) ≡ true → verdictOf y ≡ Ok tt)
                → verdictOf y ≡ Ok tt
            go true f g rec = p y (sym (same_true (part s (name a).start (name a).len) (bytes_of s y) f))
            go false f g rec = rec g

        -- all rows before rs are of the groups es
        abbrev Before : List E → List Row → Type 0
        Before es rs = (w : List ℕ) → known (names_of es) w ≡ false → of_group w (said whole) ≡ of_group w (said rs)

        -- a row of a known group
        known_on : (es : List E) (r : Row) (rs : List Row) {z : Going X} → known (names_of es) (bytes_of s r.name) ≡ true → GroupsAnswer T Say s es rs z → GroupsAnswer T Say s es (r ∷ rs) z
        unfolding row_said
        known_on es r rs e (all_said {gs = gs} fs g p k) = all_said fs (subst (λ (l : List says.Row). Grouped l gs) (sym (unknown_past (names_of es) (row_said s r) (said rs) e)) g) p k
        known_on es r rs e (first_faulty {gs = gs} g n) = first_faulty (subst (λ (l : List says.Row). Grouped l gs) (sym (unknown_past (names_of es) (row_said s r) (said rs) e)) g) n

        before_known : (es : List E) (r : Row) (rs : List Row) → known (names_of es) (bytes_of s r.name) ≡ true → Before es (r ∷ rs) → Before es rs
        unfolding row_said
        before_known es r rs e bf v f = bf v f ∙ of_group_past v (names_of es) (row_said s r) (said rs) e f

        -- a row of a group that is new
        module _ (es : List E) (r : Row) (rs : List Row) (bf : Before es (r ∷ rs)) (e : known (names_of es) (bytes_of s r.name) ≡ false) where
          abbrev group_name : List ℕ
          group_name = bytes_of s r.name

          grouped_row : {gs : List Group} → Grouped (unknown (names_of es ++ (group_name ∷ [])) (said rs)) gs → Grouped (unknown (names_of es) (said (r ∷ rs))) (group_for s whole r ∷ gs)
          unfolding row_said
          grouped_row g = grouped_new (names_of es) (row_said s r) (said rs) (said whole) e (bf group_name e) g

          module _ (d : E) (n : name d ≡ span_said r.name) where
            named_so : part s (name d).start (name d).len ≡ group_name
            named_so = ap (λ (y : written.Span). part s y.start y.len) n

            names_so : names_of (es ++ (d ∷ [])) ≡ names_of es ++ (group_name ∷ [])
            names_so = map_more (λ e. part s (name e).start (name e).len) es d ∙ ap (λ (w : List ℕ). names_of es ++ (w ∷ [])) named_so

            before_new : Before (es ++ (d ∷ [])) rs
            unfolding row_said
            before_new v f =
                let g : known (names_of es ++ (group_name ∷ [])) v ≡ false = ap (λ (K : List (List ℕ)). known K v) (sym names_so) ∙ f in
                bf v (known_fewer (names_of es) group_name v g) ∙ of_group_past v (names_of es ++ (group_name ∷ [])) (row_said s r) (said rs) (known_last (names_of es) group_name) g

            new_on : GroupSays T Say s (group_for s whole r) d → {z : Going X} → GroupsAnswer T Say s (es ++ (d ∷ [])) rs z → GroupsAnswer T Say s es (r ∷ rs) z
            new_on y (all_said {x = x} {gs = gs} fs g p k) =
                all_said (d ∷ fs) (grouped_row (subst (λ (K : List (List ℕ)). Grouped (unknown K (said rs)) gs) names_so g)) (more y p) (subst (Holds x) (append_assoc es (d ∷ []) fs) k)
            new_on y (first_faulty {gs = gs} g k) =
                first_faulty (grouped_row (subst (λ (K : List (List ℕ)). Grouped (unknown K (said rs)) gs) names_so g))
                (NoGroups.later (record { xs = y.xs; entries = y.entries; whole = complete (group_for s whole r) y.xs d y.says }) k)

        module _ (x : X) (es : List E) (h : Holds x es) where
          known_holds : (w : List ℕ) → known_in s (names x).items (names x).count w ≡ true → known (names_of es) w ≡ true
          unfolding known_in
          known_holds w f =
              known_so s w name es (names x).count (λ l. omega (arith, h.few l)) (ap (λ (t : List Span). known_from (names x).count s t 0 w) (sym h.named) ∙ f)

          holds_known : (w : List ℕ) → known_in s (names x).items (names x).count w ≡ false → length es ≤ 8 → known (names_of es) w ≡ false
          unfolding known_in
          holds_known w f l = known_not s w name es (names x).count (omega (arith, h.few l)) l (ap (λ (t : List Span). known_from (names x).count s t 0 w) (sym h.named) ∙ f)

          stepped : (r : Row) {u : Bool} → known_in s (names x).items (names x).count (bytes_of s r.name) ≡ u → step x r ≡ cond u (on x) (after x (verdictOf r.name) (item_of r.name))
          stepped r f = steps x r ∙ ap (λ (u : Bool). cond u (on x) (after x (verdictOf r.name) (item_of r.name))) f

        no_groups : (es : List E) → Grouped (unknown (names_of es) []) []
        unfolding unknown
        no_groups es = Grouped.end

        collected : (x : X) (es : List E) → Holds x es → All Accepted es → (rs : List Row) → All (Standing s) rs → Before es rs → GroupsAnswer T Say s es rs (over step x rs)
        collected x es h acc [] st bf = subst (GroupsAnswer T Say s es []) (sym (over_none step x)) (all_said [] (no_groups es) none (subst (Holds x) (sym (append-nil es)) h))
        collected x es h acc (r ∷ rs) (next a st) bf = go (known (names_of es) w) refl (known_in s (names x).items (names x).count w) refl (λ y fs p q f. collected y fs p q rs st f)
          where
            w : List ℕ
            w = bytes_of s r.name

            again : known (names_of es) w ≡ true → known_in s (names x).items (names x).count w ≡ false → Dec (8 < length es)
                → ((y : X) (fs : List E) → Holds y fs → All Accepted fs → Before fs rs → GroupsAnswer T Say s fs rs (over step y rs)) → GroupsAnswer T Say s es (r ∷ rs) (over step x (r ∷ rs))
            again e f (yes l) rec =
                let o : step x r ≡ on (with x (item_of r.name)) = stepped x es h r f ∙ ap (λ (v : Result ⊤ Refusal). after x v (item_of r.name)) (known_accepted acc r.name e) ∙ after-accepted x (item_of r.name) in
                subst (GroupsAnswer T Say s es (r ∷ rs)) (sym (over_on step x r rs o)) (known_on es r rs e (rec (with x (item_of r.name)) es (holds_again h l (item_of r.name)) acc (before_known es r rs e bf)))
            again e f (no l) rec = differ e (holds_known x es h w f (omega arith))

            new : (e : known (names_of es) w ≡ false) → known_in s (names x).items (names x).count w ≡ false → OneGroup name made T Say s whole verdictOf item_of r
                → ((y : X) (fs : List E) → Holds y fs → All Accepted fs → Before fs rs → GroupsAnswer T Say s fs rs (over step y rs)) → GroupsAnswer T Say s es (r ∷ rs) (over step x (r ∷ rs))
            new e f (one_said d v i n y) rec =
                let o : step x r ≡ on (with x (made d)) = stepped x es h r f ∙ ap₂ (after x) v i ∙ after-accepted x (made d) in
                let q = rec (with x (made d)) (es ++ (d ∷ [])) (holds_more h d) (all_more acc (λ z k. alike z r.name (k ∙ named_so es r rs bf e d n) ∙ v)) (before_new es r rs bf e d n) in
                subst (GroupsAnswer T Say s es (r ∷ rs)) (sym (over_on step x r rs o)) (new_on es r rs bf e d n y q)
            new e f (one_faulty q v n) rec =
                let o : step x r ≡ stop_with q = stepped x es h r f ∙ ap (λ (u : Result ⊤ Refusal). after x u (item_of r.name)) v ∙ after-refused x (item_of r.name) q in
                let g = grouped_always (unknown (names_of es ++ (w ∷ [])) (said rs)) in
                subst (GroupsAnswer T Say s es (r ∷ rs)) (sym (over_stop step x r rs o)) (first_faulty (grouped_row es r rs bf e g.1) (NoGroups.here n))

            go : (t : Bool) → known (names_of es) w ≡ t → (u : Bool) → known_in s (names x).items (names x).count w ≡ u
                → ((y : X) (fs : List E) → Holds y fs → All Accepted fs → Before fs rs → GroupsAnswer T Say s fs rs (over step y rs)) → GroupsAnswer T Say s es (r ∷ rs) (over step x (r ∷ rs))
            go true e true f rec = subst (GroupsAnswer T Say s es (r ∷ rs)) (sym (over_on step x r rs (stepped x es h r f))) (known_on es r rs e (rec x es h acc (before_known es r rs e bf)))
            go true e false f rec = again e f (dec_lt 8 (length es)) rec
            go false e true f rec = differ (known_holds x es h w f) e
            go false e false f rec = new e f (one-group r a) rec

        -- all groups of the section, from the empty struct
        pub groups_sound : (x : X) → Holds x [] → All (Standing s) whole → GroupsAnswer T Say s [] whole (over step x whole)
        groups_sound x h st = collected x [] h All.end whole st (λ w e. refl)
