-- A file splits as the answer says, and where the answer is that it does not split, it splits in no way.
use mathlib.Core.Path.{◌≡◌, refl, sym, ap, ap₂, ◌∙◌, subst}
use mathlib.Core.Bool.{Bool, true, false, cond, ◌&&◌}
use mathlib.Core.List.{List, [], ◌∷◌, ◌++◌}
use Prim.Native.Nat.{ℕ, zero, suc, ◌+◌, ◌-◌, ◌≤◌, ◌<◌}
use native.Mathlib.Omega.{arith}
use borrow.Author.Tests.{eqb-true, lt-ltb, ltb-true}
use lib.Dec.{eqb, ltb}
use lib.ListN.{length, take, drop, length-append, length-drop, take-append-drop}
use lib.Seq.{take-append_seam, drop-append_seam, drop-drop, length-take-le}
use Rattle.std.specs.Prelude.{Option, Some, None}
use Rattle.written.specs.Bytes.{bytes, newline, bracket, is_newline, same, byte_at, part}
use Rattle.written.specs.Bytes as written
use Rattle.written.specs.Sections.{UpToNext, newlines, Sections}
use Rattle.written.specs.Sections as says
use Rattle.written.proofs.Tests.{both}
use Rattle.written.proofs.OneFile.{one_newline}
use Rattle.written_apart.proofs.ApartFile.{same_same}
use Rattle.written_total.proofs.Total.{same_true}
use Rattle.laws.specs.Runs.{run, stop}
use Rattle.laws.proofs.Runs.{byte_is}
use Rattle.head_record.specs.Empty.{span}
use Rattle.text_parts.specs.declared.Span.{Span}
use Rattle.head_lines.proofs.Moves.{no as never}
use Rattle.head_sections.specs.Split.{starts_at, break_in, break_at, text, text_to, section_at, data_of, position_of, stream_of, split_of}
use Rattle.head_sections.specs.declared.Parts.{Parts}
use Rattle.head_sections.specs.declared.Section as found

-- ---- the next "\n["

head_byte : (c : ℕ) (l : List ℕ) → byte_at (c ∷ l) 0 ≡ c
head_byte c l = byte_is (c ∷ l) 0 (omega arith)

break_first : (a b : List ℕ) → break_in (a ++ (newline ∷ bracket ∷ b)) ≤ length a
unfolding break_in
break_first [] b = rw (head_byte bracket b) (omega arith)
break_first (c ∷ a) b = go (eqb c newline && eqb (byte_at (a ++ (newline ∷ bracket ∷ b)) 0) bracket) (break_first a b)
  where
    go : (t : Bool) → break_in (a ++ (newline ∷ bracket ∷ b)) ≤ length a → cond t 0 (suc (break_in (a ++ (newline ∷ bracket ∷ b)))) ≤ suc (length a)
    go true h = omega arith
    go false h = omega arith

-- where it stands, it splits the text
pub record Broken (l : List ℕ) : Type 0 where
  pub rest : List ℕ
  pub here : drop (break_in l) l ≡ newline ∷ bracket ∷ rest

bracket_next : (l : List ℕ) → byte_at l 0 ≡ bracket → (r : List ℕ) × (l ≡ bracket ∷ r)
unfolding byte_at
bracket_next [] e = absurd (omega arith)
bracket_next (c ∷ l) e = (l, ap (λ (x : ℕ). x ∷ l) (sym (head_byte c l) ∙ e))

break_split : (l : List ℕ) → break_in l < length l → Broken l
unfolding break_in
break_split [] h = absurd (omega arith)
break_split (c ∷ l) h = go (eqb c newline && eqb (byte_at l 0) bracket) refl h (λ k. break_split l k)
  where
    go : (t : Bool) → (eqb c newline && eqb (byte_at l 0) bracket) ≡ t → cond t 0 (suc (break_in l)) < suc (length l) → (break_in l < length l → Broken l) → Broken (c ∷ l)
    go true e k rec =
        let b = both (eqb c newline) (eqb (byte_at l 0) bracket) e in
        let r = bracket_next l (eqb-true _ _ b.1) in
        record { rest = r.0; here = ap (λ (t : Bool). drop (cond t 0 (suc (break_in l))) (c ∷ l)) e ∙ ap₂ ◌∷◌ (eqb-true c newline b.0) r.1 }
    go false e k rec = let d = rec (omega arith) in record { rest = d.rest; here = ap (λ (t : Bool). drop (cond t 0 (suc (break_in l))) (c ∷ l)) e ∙ d.here }

break_up_to : (l : List ℕ) → break_in l < length l → UpToNext (take (break_in l) l) (drop (break_in l) l)
break_up_to l h =
    let d = break_split l h in
    record {
      rest = d.rest;
      here = d.here;
      first = λ a b e. let f : break_in l ≤ length a = subst (λ (x : List ℕ). break_in x ≤ length a) (sym e ∙ take-append-drop (break_in l) l) (break_first a b) in omega (arith, length-take-le (break_in l) l (omega arith));
    }

up_to_break : {t f : List ℕ} → UpToNext t f → break_in (t ++ f) ≡ length t
up_to_break {t} {f} u =
    let l = t ++ f in
    let x : break_in l ≤ length t = subst (λ (g : List ℕ). break_in (t ++ g) ≤ length t) (sym u.here) (break_first t u.rest) in
    let n : length l ≡ length t + length f = length-append t f in
    let k : length f ≡ suc (suc (length u.rest)) = ap length u.here in
    let h : break_in l < length l = omega arith in
    let d = break_split l h in
    let y : length t ≤ length (take (break_in l) l) = u.first (take (break_in l) l) d.rest (sym (take-append-drop (break_in l) l) ∙ ap (λ (g : List ℕ). take (break_in l) l ++ g) d.here) in
    omega (arith, length-take-le (break_in l) l (omega arith))

-- ---- a section

starts_split : (s : List ℕ) (i : ℕ) (w : List ℕ) → starts_at s i w ≡ true → drop i s ≡ w ++ drop (i + length w) s
unfolding starts_at
starts_split s i w e =
    sym (take-append-drop (length w) (drop i s))
    ∙ ap₂ ◌++◌ (same_true (part s i (length w)) w e) (drop-drop (length w) i s)

starts_so : (s : List ℕ) (i : ℕ) (w r : List ℕ) → drop i s ≡ w ++ r → starts_at s i w ≡ true
unfolding starts_at
starts_so s i w r e = ap (λ (l : List ℕ). same (take (length w) l) w) e ∙ ap (λ (l : List ℕ). same l w) (take-append_seam w r) ∙ same_same w

-- what a section that is found says of the text
pub record Found (s : List ℕ) (i : ℕ) (w : List ℕ) (a e : ℕ) : Type 0 where
  pub start : a ≡ i + length w
  pub order : a ≤ e
  pub inside : e < length s
  pub whole : drop i s ≡ w ++ (take (e - a) (drop a s) ++ drop e s)
  pub up_to : UpToNext (take (e - a) (drop a s)) (drop e s)
  pub len : length (take (e - a) (drop a s)) ≡ e - a

section_found : (s : List ℕ) (i : ℕ) (w : List ℕ) {a e : ℕ} → section_at s i w ≡ text a e → Found s i w a e
unfolding section_at break_at
section_found s i w {a} {e} f = go (starts_at s i w) refl f
  where
    b : ℕ
    b = i + length w

    k : ℕ
    k = break_in (drop b s)

    at : starts_at s i w ≡ true → (t : Bool) → ltb (b + k) (length s) ≡ t → cond t (text b (b + k)) None ≡ text a e → Found s i w a e
    at g true q h =
        let r : ◌≡◌ {A = found.Section} (record { start = b; end = b + k }) (record { start = a; end = e }) = cc in
        let x : b ≡ a = ap (λ (v : found.Section). v.start) r in
        let y : b + k ≡ e = ap (λ (v : found.Section). v.end) r in
        let l = ltb-true (b + k) (length s) q in
        let n : break_in (drop b s) < length (drop b s) = omega (arith, length-drop b s) in
        let d : drop k (drop b s) ≡ drop (b + k) s = drop-drop k b s in
        let z : b + k - b ≡ k = omega arith in
        subst (λ (m : ℕ). Found s i w m e) x
        (subst (λ (m : ℕ). Found s i w b m) y
        (record {
          start = refl;
          order = omega arith;
          inside = l;
          whole = starts_split s i w g ∙ ap (λ (m : List ℕ). w ++ m) (sym (take-append-drop k (drop b s)) ∙ ap₂ (λ (m : ℕ) (r : List ℕ). take m (drop b s) ++ r) (sym z) d);
          up_to = subst (λ (m : ℕ). UpToNext (take m (drop b s)) (drop (b + k) s)) (sym z) (subst (λ (r : List ℕ). UpToNext (take k (drop b s)) r) d (break_up_to (drop b s) n));
          len = ap (λ (m : ℕ). length (take m (drop b s))) z ∙ length-take-le k (drop b s) (omega arith) ∙ sym z;
        }))
    at g false q h = never cc

    go : (t : Bool) → starts_at s i w ≡ t → cond t (text_to s b (b + k)) None ≡ text a e → Found s i w a e
    go true g h = at g (ltb (b + k) (length s)) refl h
    go false g h = never cc

-- a section that is written is found
section_is : (s : List ℕ) (i : ℕ) (w t f : List ℕ) → drop i s ≡ w ++ (t ++ f) → UpToNext t f → section_at s i w ≡ text (i + length w) (i + length w + length t)
unfolding section_at break_at
section_is s i w t f e u =
    let d : drop (i + length w) s ≡ t ++ f = sym (drop-drop (length w) i s) ∙ ap (drop (length w)) e ∙ drop-append_seam w (t ++ f) in
    let k : break_in (drop (i + length w) s) ≡ length t = ap break_in d ∙ up_to_break u in
    let n : length (drop (i + length w) s) ≡ length t + length f = ap length d ∙ length-append t f in
    let m : length f ≡ suc (suc (length u.rest)) = ap length u.here in
    let l : i + length w + length t < length s = omega (arith, length-drop (i + length w) s) in
    rw (starts_so s i w (t ++ f) e, k, lt-ltb (i + length w + length t) (length s) l)

-- what follows it
section_rest : (s : List ℕ) (i : ℕ) (w t f : List ℕ) → drop i s ≡ w ++ (t ++ f) → drop (i + length w + length t) s ≡ f
section_rest s i w t f e =
    sym (drop-drop (length t) (i + length w) s)
    ∙ ap (drop (length t)) (sym (drop-drop (length w) i s) ∙ ap (drop (length w)) e ∙ drop-append_seam w (t ++ f))
    ∙ drop-append_seam t f

-- ---- newlines in front

front : (l : List ℕ) → l ≡ newlines (length (run is_newline l)) ++ drop (length (run is_newline l)) l
unfolding run
front [] = refl
front (c ∷ l) = go (eqb c newline) refl (front l)
  where
    go : (t : Bool) → eqb c newline ≡ t → l ≡ newlines (length (run is_newline l)) ++ drop (length (run is_newline l)) l
        → c ∷ l ≡ newlines (length (cond t (c ∷ run is_newline l) [])) ++ drop (length (cond t (c ∷ run is_newline l) [])) (c ∷ l)
    go true e h = ap₂ ◌∷◌ (eqb-true c newline e) h
    go false e h = refl

newlines-front : (s : List ℕ) → s ≡ newlines (stop is_newline s 0) ++ drop (stop is_newline s 0) s
unfolding stop
newlines-front s = let e : 0 + length (run is_newline s) ≡ length (run is_newline s) = omega arith in rw e (front s)

run-newlines : (n : ℕ) (x : List ℕ) → length (run is_newline (newlines n ++ (bracket ∷ x))) ≡ n
unfolding run
run-newlines zero x = refl
run-newlines (suc n) x = ap suc (run-newlines n x)

stop-newlines : (n : ℕ) (x : List ℕ) {s : List ℕ} → s ≡ newlines n ++ (bracket ∷ x) → stop is_newline s 0 ≡ n
unfolding stop
stop-newlines n x {s} e = let f = run-newlines n x in let g : length (run is_newline s) ≡ n = ap (λ (l : List ℕ). length (run is_newline l)) e ∙ f in omega arith

drop-newlines : (n : ℕ) (x : List ℕ) → drop n (newlines n ++ x) ≡ x
drop-newlines zero x = refl
drop-newlines (suc n) x = drop-newlines n x

-- one newline before a heading
behind_break : (s : List ℕ) (e : ℕ) {c : ℕ} {r : List ℕ} → drop e s ≡ c ∷ r → drop (e + 1) s ≡ r
behind_break s e h = sym (drop-drop 1 e s) ∙ ap (drop 1) h

one_before : (s : List ℕ) (e : ℕ) {t : List ℕ} → UpToNext t (drop e s) → drop e s ≡ newline ∷ drop (e + 1) s
one_before s e u = u.here ∙ ap (λ (l : List ℕ). newline ∷ l) (sym (behind_break s e u.here))

-- ---- both ways

abbrev span_in : Span → written.Span
span_in x = record { start = x.start; len = x.len }

-- the parts, in the words of `written`
abbrev pub said : Parts → says.Parts
said p = record { global = span_in p.global; stream = span_in p.stream; position = span_in p.position; rest = span_in p.rest }

abbrev of_parts : Parts → Option Parts → Parts
of_parts d (Some p) = p
of_parts d None = d

-- a file that the answer splits is split so
pub split_sound : (s : List ℕ) (p : Parts) → split_of s ≡ Some p → Sections s (said p)
unfolding split_of bytes
split_sound s p e = global (section_at s n (bytes "[GLOBAL]\n")) refl e
  where
    n : ℕ
    n = stop is_newline s 0

    made : (g h a b q f : ℕ) → Found s n (bytes "[GLOBAL]\n") g h → Found s (h + 1) (bytes "[STREAM]\n") a b → Found s (b + 1) (bytes "[POSITION]\n") q f → starts_at s (f + 1) (bytes "[DATA]\n") ≡ true
        → Sections s (said (record { global = span g (h - g); stream = span a (b - a); position = span q (f - q); rest = span (f + 8) (length s - (f + 8)) }))
    made g h a b q f x y z d =
        record {
          n_global = n;
          n_stream = 0;
          n_position = 0;
          n_data = 0;
          after_global = drop h s;
          after_stream = drop b s;
          after_position = drop f s;
          dat = drop (f + 1 + length (bytes "[DATA]\n")) s;
          global = record { written = take (h - g) (drop g s); whole = newlines-front s ∙ ap (λ (l : List ℕ). newlines n ++ l) x.whole; up_to = x.up_to; start = omega (arith, x.start); len = sym x.len };
          stream = record { written = take (b - a) (drop a s); whole = one_before s h x.up_to ∙ ap (λ (l : List ℕ). newline ∷ l) y.whole; up_to = y.up_to; start = omega (arith, y.start, x.order); len = sym y.len };
          position = record { written = take (f - q) (drop q s); whole = one_before s b y.up_to ∙ ap (λ (l : List ℕ). newline ∷ l) z.whole; up_to = z.up_to; start = omega (arith, z.start, y.order); len = sym z.len };
          rest = one_before s f z.up_to ∙ ap (λ (l : List ℕ). newline ∷ l) (starts_split s (f + 1) (bytes "[DATA]\n") d);
          rest_start = omega (arith, z.order);
          rest_len = omega (arith, length-drop (f + 1 + length (bytes "[DATA]\n")) s);
        }

    dat : (g h a b q f : ℕ) → Found s n (bytes "[GLOBAL]\n") g h → Found s (h + 1) (bytes "[STREAM]\n") a b → Found s (b + 1) (bytes "[POSITION]\n") q f → (t : Bool) → starts_at s (f + 1) (bytes "[DATA]\n") ≡ t
        → cond t (Some (record { global = span g (h - g); stream = span a (b - a); position = span q (f - q); rest = span (f + 8) (length s - (f + 8)) })) None ≡ Some p
        → Sections s (said p)
    dat g h a b q f x y z true d w =
        subst (λ (r : Parts). Sections s (said r)) (ap (of_parts p) w) (made g h a b q f x y z d)
    dat g h a b q f x y z false d w = never cc

    position : (g h a b : ℕ) → Found s n (bytes "[GLOBAL]\n") g h → Found s (h + 1) (bytes "[STREAM]\n") a b → (d : Option found.Section) → section_at s (b + 1) (bytes "[POSITION]\n") ≡ d → data_of s g h a b d ≡ Some p → Sections s (said p)
    position g h a b x y None f w = never cc
    position g h a b x y (Some z) f w = dat g h a b z.start z.end x y (section_found s (b + 1) (bytes "[POSITION]\n") f) (starts_at s (z.end + 1) (bytes "[DATA]\n")) refl w

    stream : (g h : ℕ) → Found s n (bytes "[GLOBAL]\n") g h → (d : Option found.Section) → section_at s (h + 1) (bytes "[STREAM]\n") ≡ d → position_of s g h d ≡ Some p → Sections s (said p)
    stream g h x None f w = never cc
    stream g h x (Some y) f w = position g h y.start y.end x (section_found s (h + 1) (bytes "[STREAM]\n") f) (section_at s (y.end + 1) (bytes "[POSITION]\n")) refl w

    global : (d : Option found.Section) → section_at s n (bytes "[GLOBAL]\n") ≡ d → stream_of s d ≡ Some p → Sections s (said p)
    global None f w = never cc
    global (Some x) f w = stream x.start x.end (section_found s n (bytes "[GLOBAL]\n") f) (section_at s (x.end + 1) (bytes "[STREAM]\n")) refl w

-- a file that splits in some way is split by the answer
pub split_complete : (s : List ℕ) (q : says.Parts) → Sections s q → (p : Parts) × (split_of s ≡ Some p)
unfolding split_of bytes
split_complete s q x =
    let n = x.n_global in
    let t = x.global.written in
    let u = x.stream.written in
    let v = x.position.written in
    let e0 : stop is_newline s 0 ≡ n = stop-newlines n _ x.global.whole in
    let d0 : drop n s ≡ bytes "[GLOBAL]\n" ++ (t ++ x.after_global) = ap (drop n) x.global.whole ∙ drop-newlines n _ in
    let e1 = section_is s n (bytes "[GLOBAL]\n") t x.after_global d0 x.global.up_to in
    let h = n + length (bytes "[GLOBAL]\n") + length t in
    let r1 : drop h s ≡ x.after_global = section_rest s n (bytes "[GLOBAL]\n") t x.after_global d0 in
    let z1 : x.n_stream ≡ 0 = one_newline x.n_stream _ (subst (λ (l : List ℕ). UpToNext t l) x.stream.whole x.global.up_to) in
    let d1 : drop (h + 1) s ≡ bytes "[STREAM]\n" ++ (u ++ x.after_stream) = behind_break s h (r1 ∙ x.stream.whole ∙ ap (λ (m : ℕ). newlines (suc m) ++ (bytes "[STREAM]\n" ++ (u ++ x.after_stream))) z1) in
    let e2 = section_is s (h + 1) (bytes "[STREAM]\n") u x.after_stream d1 x.stream.up_to in
    let b = h + 1 + length (bytes "[STREAM]\n") + length u in
    let r2 : drop b s ≡ x.after_stream = section_rest s (h + 1) (bytes "[STREAM]\n") u x.after_stream d1 in
    let z2 : x.n_position ≡ 0 = one_newline x.n_position _ (subst (λ (l : List ℕ). UpToNext u l) x.position.whole x.stream.up_to) in
    let d2 : drop (b + 1) s ≡ bytes "[POSITION]\n" ++ (v ++ x.after_position) = behind_break s b (r2 ∙ x.position.whole ∙ ap (λ (m : ℕ). newlines (suc m) ++ (bytes "[POSITION]\n" ++ (v ++ x.after_position))) z2) in
    let e3 = section_is s (b + 1) (bytes "[POSITION]\n") v x.after_position d2 x.position.up_to in
    let f = b + 1 + length (bytes "[POSITION]\n") + length v in
    let r3 : drop f s ≡ x.after_position = section_rest s (b + 1) (bytes "[POSITION]\n") v x.after_position d2 in
    let z3 : x.n_data ≡ 0 = one_newline x.n_data _ (subst (λ (l : List ℕ). UpToNext v l) x.rest x.position.up_to) in
    let d3 : drop (f + 1) s ≡ bytes "[DATA]\n" ++ x.dat = behind_break s f (r3 ∙ x.rest ∙ ap (λ (m : ℕ). newlines (suc m) ++ (bytes "[DATA]\n" ++ x.dat)) z3) in
    let e4 = starts_so s (f + 1) (bytes "[DATA]\n") x.dat d3 in
    let g = n + length (bytes "[GLOBAL]\n") in
    let a = h + 1 + length (bytes "[STREAM]\n") in
    let c = b + 1 + length (bytes "[POSITION]\n") in
    (record { global = span g (h - g); stream = span a (b - a); position = span c (f - c); rest = span (f + 8) (length s - (f + 8)) }, rw (e0, e1, e2, e3, e4))

-- 1 exactly where no split exists
pub unsplit_sound : (s : List ℕ) → split_of s ≡ None → (q : says.Parts) → ¬ Sections s q
unsplit_sound s e q x = let c = split_complete s q x in let f : ◌≡◌ {A = Option Parts} None (Some c.0) = sym e ∙ c.1 in never {A = ⊥} cc
