-- COMMENT of an opened file: the bytes of the file that its record says, or the fallback where the record says none.
use mathlib.Core.Path.{◌≡◌, sym, ◌∙◌, subst}
use mathlib.Core.Bool.{Bool, true, false, cond}
use mathlib.Core.List.{List, [], ◌∷◌}
use mathlib.Core.Option.{some, none as nothing}
use Prim.Native.Nat.{ℕ, zero, suc, ◌+◌, ◌-◌, ◌≤◌}
use native.Mathlib.Omega.{arith}
use borrow.Author.Tests.{le-ltb}
use lib.ListN.{length, take}
use Rattle.written.specs.Bytes.{bytes, newline, same, part, Span}
use Rattle.written.specs.HeaderText.{Text, Kind, Value, text, Reads, is_string, Field, Entry, values_of, Many, none, more, NextLine}
use Rattle.written.specs.Record.{AtMostOnce, missing, there, GlobalText, Says}
use Rattle.written.specs.Record as record_of
use Rattle.head_record.specs.Record.{global_record, header_record}
use Rattle.head_lines.proofs.Moves.{no as never}
use Rattle.head_open.specs.Open.{comment_part, comment_of}

-- ---- where the value of a key was read

record ReadIn (s : List ℕ) (v : Value) : Type 0 where
  at : ℕ
  kind : Kind
  ends : ℕ
  reads : Reads (newline ∷ []) s at kind v ends

read_in : {T : List Field} {s : List ℕ} {i k : ℕ} {xs : List Entry} → Many (NextLine T s) i xs k → (w : List ℕ) {v : Value} → values_of w xs ≡ v ∷ [] → ReadIn s v
unfolding values_of
read_in none w e = never cc
read_in {T} {s} (more {a = x} {l = xs} l m) w {v} e = go (same w x.name) e (λ f. read_in m w f)
  where
    go : (t : Bool) → cond t (x.value ∷ values_of w xs) (values_of w xs) ≡ v ∷ [] → (values_of w xs ≡ v ∷ [] → ReadIn s v) → ReadIn s v
    go true f rec = let h : x.value ≡ v = cc in subst (ReadIn s) h (record { at = _; kind = _; ends = _; reads = l.line.value })
    go false f rec = rec f

text_inside : {s : List ℕ} {x : Span} → ReadIn s (text x) → x.start + x.len ≤ length s
text_inside {s} {x} r = go r.reads
  where
    string : {D : List ℕ} {i j : ℕ} → Text D s i x j → x.start + x.len ≤ length s
    string (Text.quoted a e f g q) = f.inside
    string (Text.bare a e f g q) = omega (arith, f.inside)

    go : {i j : ℕ} {k : Kind} → Reads (newline ∷ []) s i k (text x) j → x.start + x.len ≤ length s
    go (is_string t) = string t

take-shorter : (n : ℕ) (l : List ℕ) → length (take n l) ≤ length l
take-shorter zero l = omega arith
take-shorter (suc n) [] = omega arith
take-shorter (suc n) (a ∷ l) = omega (arith, take-shorter n l)

comment_inside : {s : List ℕ} {p : Span} {g : record_of.Global} → GlobalText s p g → {x : Span} → g.comment ≡ some x → x.start + x.len ≤ length s
comment_inside {s} {p} {g} t {x} e = go t.says.comment
  where
    go : AtMostOnce text some nothing t.xs "COMMENT" g.comment → x.start + x.len ≤ length s
    go (missing f q) = let z : some x ≡ nothing = sym e ∙ q in never cc
    go (there a f q) =
        let z : some x ≡ some a = sym e ∙ q in
        let h : x ≡ a = cc in
        let k = text_inside (read_in t.lines.lines (bytes "COMMENT") f) in
        subst (λ (y : Span). y.start + y.len ≤ length s) (sym h) (omega (arith, k, take-shorter (p.start + p.len) s))

-- ---- the call

pub comment_said : {s : List ℕ} {h : record_of.Header} → Says s h → (fallback : List ℕ) {x : Span} → h.global.comment ≡ some x → comment_of s (header_record h) fallback ≡ part s x.start x.len
unfolding header_record global_record comment_part
comment_said {s} {h} y fallback {x} e =
    let k = comment_inside y.global e in
    rw (e, le-ltb (length s) x.start (omega arith), le-ltb (length s - x.start) x.len (omega arith))

pub comment_missing : (s : List ℕ) (h : record_of.Header) (fallback : List ℕ) → h.global.comment ≡ nothing → comment_of s (header_record h) fallback ≡ fallback
unfolding header_record global_record comment_part
comment_missing s h fallback e = rw e
