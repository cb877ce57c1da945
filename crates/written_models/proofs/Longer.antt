-- Bytes behind a file: it opens as before, with the data longer; each model stands where it stood and says what it said.
use mathlib.Core.Path.{◌≡◌, refl, sym, ap, ap₂, ◌∙◌, subst}
use mathlib.Core.List.{List, [], ◌∷◌, ◌++◌, append_assoc}
use Prim.Native.Nat.{ℕ, suc, ◌+◌, ◌-◌, ◌≤◌, ◌<◌}
use native.Mathlib.Omega.{arith}
use native.Mathlib.Decide.{dec_lt}
use lib.ListN.{length, take, drop, length-append, length-drop, length-replicate, take-append-drop}
use lib.Seq.{take-append-le, drop-append-le, take_all}
use Rattle.written.specs.Bytes.{bytes, newline, bracket, part, Span}
use Rattle.written.specs.Sections.{UpToNext, newlines, Parts, Part, Sections}
use Rattle.written.specs.HeaderText.{Range, Section}
use Rattle.written.specs.Groups.{Pointwise}
use Rattle.written.specs.Record.{Global, Stream, Position, Header, up_to, GroupSays, GlobalText, StreamSays, StreamText, PositionSays, PositionText, file_limit, Says, global_fields, stream_fields, stream_group, position_fields, position_group}
use Rattle.written.specs.Rfc3629.{Octets}
use Rattle.written.specs.Models.{bytes_of, data_of}
use Rattle.written.specs.Trailer.{longer, shorter}
use Rattle.written.proofs.OneFile.{heads, tails, append_same}

-- ---- parts of a text that stand in its front

pub part-append : (s t : List ℕ) (i n : ℕ) → i + n ≤ length s → part (s ++ t) i n ≡ part s i n
part-append s t i n l =
    let a : i ≤ length s = omega arith in
    let b : n ≤ length (drop i s) = omega (arith, length-drop i s) in
    ap (take n) (drop-append-le i s t a) ∙ take-append-le n (drop i s) t b

pub bytes-append : (s t : List ℕ) (x : Span) → x.start + x.len ≤ length s → bytes_of (s ++ t) x ≡ bytes_of s x
bytes-append s t x l = part-append s t x.start x.len l

-- all the rest of a text, and what is put behind it
pub rest_append : (s t : List ℕ) (i n : ℕ) → i + n ≡ length s → part (s ++ t) i (n + length t) ≡ part s i n ++ t
rest_append s t i n e =
    let a : i ≤ length s = omega arith in
    let b : length (drop i s) ≡ n = omega (arith, length-drop i s) in
    let c : length (drop i s ++ t) ≤ n + length t = omega (arith, length-append (drop i s) t) in
    let d : length (drop i s) ≤ n = omega arith in
    ap (take (n + length t)) (drop-append-le i s t a) ∙ take_all (n + length t) (drop i s ++ t) c ∙ ap (λ (l : List ℕ). l ++ t) (sym (take_all n (drop i s) d))

-- ---- sections

-- two bytes that stand in the front of a text
cut : (x a t b : List ℕ) (p q : ℕ) → x ++ t ≡ a ++ (p ∷ q ∷ b) → length a + 2 ≤ length x → (c : List ℕ) × (x ≡ a ++ (p ∷ q ∷ c))
cut [] a t b p q e l = absurd (omega arith)
cut (x ∷ []) [] t b p q e l = absurd (omega arith)
cut (x ∷ (y ∷ xs)) [] t b p q e l = (xs, λ i. heads e i ∷ (heads (tails e) i ∷ xs))
cut (x ∷ xs) (y ∷ a) t b p q e l = let h = cut xs a t b p q (tails e) (omega arith) in (h.0, ap₂ ◌∷◌ (heads e) h.1)

up_to_append : {text after : List ℕ} (t : List ℕ) → UpToNext text after → UpToNext text (after ++ t)
up_to_append {text} {after} t u =
    record {
      rest = u.rest ++ t;
      here = ap (λ (l : List ℕ). l ++ t) u.here;
      first = λ a b e. go a b e (dec_lt (length a) (length text));
    }
  where
    go : (a b : List ℕ) → text ++ (after ++ t) ≡ a ++ (newline ∷ bracket ∷ b) → Dec (length a < length text) → length text ≤ length a
    go a b e (no n) = omega arith
    go a b e (yes y) =
        let l : length a + 2 ≤ length (text ++ after) = omega (arith, length-append text after, ap length u.here) in
        let h = cut (text ++ after) a t b newline bracket (append_assoc text after t ∙ e) l in
        u.first a h.0 h.1

-- a part, with bytes behind all that follows
part-longer : {n before : ℕ} {heading after following : List ℕ} {x : Span} (t : List ℕ) → Part n heading before after x following → Part n heading before (after ++ t) x (following ++ t)
part-longer {n} {before} {heading} {after} {following} {x} t p =
    record {
      written = p.written;
      whole =
          ap (λ (l : List ℕ). l ++ t) p.whole
          ∙ append_assoc (newlines n) (heading ++ (p.written ++ following)) t
          ∙ ap (λ (l : List ℕ). newlines n ++ l) (append_assoc heading (p.written ++ following) t ∙ ap (λ (l : List ℕ). heading ++ l) (append_assoc p.written following t));
      up_to = up_to_append t p.up_to;
      start = p.start;
      len = p.len;
    }

-- where a part's text ends
part_ends : {n before : ℕ} {heading after following : List ℕ} {x : Span} → Part n heading before after x following → x.start + x.len + length following ≡ before + length after
part_ends {n} {before} {heading} {after} {following} {x} p =
    let a = ap length p.whole ∙ length-append (newlines n) (heading ++ (p.written ++ following)) in
    let b = length-append heading (p.written ++ following) in
    let c = length-append p.written following in
    let d = length-replicate n newline in
    omega (arith, a, b, c, d, p.start, p.len)

-- the parts of a file with so many bytes more
abbrev more_parts : Parts → ℕ → Parts
more_parts p n = record { global = p.global; stream = p.stream; position = p.position; rest = record { start = p.rest.start; len = p.rest.len + n } }

sections_longer : {file : List ℕ} {p : Parts} (t : List ℕ) → Sections file p → Sections (file ++ t) (more_parts p (length t))
sections_longer {file} {p} t a =
    record {
      n_global = a.n_global;
      n_stream = a.n_stream;
      n_position = a.n_position;
      n_data = a.n_data;
      after_global = a.after_global ++ t;
      after_stream = a.after_stream ++ t;
      after_position = a.after_position ++ t;
      dat = a.dat ++ t;
      global = part-longer t a.global;
      stream = part-longer t a.stream;
      position = part-longer t a.position;
      rest =
          ap (λ (l : List ℕ). l ++ t) a.rest
          ∙ append_assoc (newlines (suc a.n_data)) (bytes "[DATA]\n" ++ a.dat) t
          ∙ ap (λ (l : List ℕ). newlines (suc a.n_data) ++ l) (append_assoc (bytes "[DATA]\n") a.dat t);
      rest_start = a.rest_start;
      rest_len = ap (λ (n : ℕ). n + length t) a.rest_len ∙ sym (length-append a.dat t);
    }

-- where the texts stand: inside the file, and the data up to its end
pub record Inside (file : List ℕ) (p : Parts) : Type 0 where
  pub global : p.global.start + p.global.len ≤ length file
  pub stream : p.stream.start + p.stream.len ≤ length file
  pub position : p.position.start + p.position.len ≤ length file
  pub rest : p.rest.start + p.rest.len ≡ length file

pub sections_inside : {file : List ℕ} {p : Parts} → Sections file p → Inside file p
sections_inside {file} {p} a =
    let g = part_ends a.global in
    let s = part_ends a.stream in
    let o = part_ends a.position in
    let d = ap length a.rest ∙ length-append (newlines (suc a.n_data)) (bytes "[DATA]\n" ++ a.dat) in
    let e = length-append (bytes "[DATA]\n") a.dat in
    let f = length-replicate (suc a.n_data) newline in
    record { global = omega (arith, g); stream = omega (arith, g, s); position = omega (arith, g, s, o); rest = omega (arith, g, s, o, d, e, f, a.rest_start, a.rest_len) }

-- ---- the record

-- the data stands up to the file's end
pub data_ends : {file : List ℕ} {h : Header} → Says file h → h.datum.start + h.datum.len ≡ length file
data_ends a = ap (λ (x : Span). x.start + x.len) a.datum ∙ (sections_inside a.split).rest

-- a section says the same in another file, where its own bytes and those up to its end are the same
module _ (file other : List ℕ) (x : Span) (own : part other x.start x.len ≡ part file x.start x.len) (front : up_to other x ≡ up_to file x) where
  global_moved : {g : Global} → GlobalText file x g → GlobalText other x g
  global_moved {g} a =
      record {
        xs = a.xs;
        utf8 = subst Octets (sym own) a.utf8;
        lines = subst (λ (s : List ℕ). Section global_fields s x.start a.xs) (sym front) a.lines;
        says = a.says;
      }

  streams_moved : {ds : List Stream} → StreamText file x ds → StreamText other x ds
  streams_moved {ds} a =
      record {
        xs = a.xs;
        gs = a.gs;
        utf8 = subst Octets (sym own) a.utf8;
        lines = subst (λ (s : List ℕ). Section stream_fields s x.start a.xs) (sym front) a.lines;
        groups = a.groups;
        say = subst (λ (s : List ℕ). Pointwise (GroupSays stream_group StreamSays s) a.gs ds) (sym front) a.say;
      }

  positions_moved : {pdf tree : Range} {ds : List Position} → PositionText file x pdf tree ds → PositionText other x pdf tree ds
  positions_moved {pdf} {tree} {ds} a =
      record {
        xs = a.xs;
        gs = a.gs;
        utf8 = subst Octets (sym own) a.utf8;
        lines = subst (λ (s : List ℕ). Section position_fields s x.start a.xs) (sym front) a.lines;
        durations = a.durations;
        groups = a.groups;
        say = subst (λ (s : List ℕ). Pointwise (GroupSays position_group PositionSays s) a.gs ds) (sym front) a.say;
      }

module _ (file t : List ℕ) where
  own_same : (x : Span) → x.start + x.len ≤ length file → part (file ++ t) x.start x.len ≡ part file x.start x.len
  own_same x l = bytes-append file t x l

  front_same : (x : Span) → x.start + x.len ≤ length file → up_to (file ++ t) x ≡ up_to file x
  front_same x l = take-append-le (x.start + x.len) file t l

  -- bytes behind a file are data: it says the same record, with the data longer
  pub longer_opens : {h : Header} → Says file h → length (file ++ t) ≤ file_limit → Says (file ++ t) (longer h (length t))
  longer_opens {h} a f =
      let i = sections_inside a.split in
      record {
        parts = more_parts a.parts (length t);
        fits = f;
        split = sections_longer t a.split;
        global = global_moved file (file ++ t) a.parts.global (own_same a.parts.global i.global) (front_same a.parts.global i.global) a.global;
        global_fits = a.global_fits;
        streams = streams_moved file (file ++ t) a.parts.stream (own_same a.parts.stream i.stream) (front_same a.parts.stream i.stream) a.streams;
        streams_fit = a.streams_fit;
        positions = positions_moved file (file ++ t) a.parts.position (own_same a.parts.position i.position) (front_same a.parts.position i.position) a.positions;
        positions_fit = a.positions_fit;
        datum = ap (λ (x : Span). record { start = x.start; len = x.len + length t }) a.datum;
      }

  pub data_longer : {h : Header} → Says file h → data_of (file ++ t) (longer h (length t)) ≡ data_of file h ++ t
  data_longer {h} a = rest_append file t h.datum.start h.datum.len (data_ends a)

-- ---- fewer bytes: what a file says with its last bytes cut off, where they were data

up_to_shorter : {text after : List ℕ} (short t : List ℕ) → after ≡ short ++ t → 2 ≤ length short → UpToNext text after → UpToNext text short
up_to_shorter {text} {after} short t e l u =
    let c = cut short [] t u.rest newline bracket (sym e ∙ u.here) l in
    record {
      rest = c.0;
      here = c.1;
      first = λ a b q.
          u.first a (b ++ t)
          (ap (λ (z : List ℕ). text ++ z) e ∙ sym (append_assoc text short t) ∙ ap (λ (z : List ℕ). z ++ t) q ∙ append_assoc a (newline ∷ bracket ∷ b) t);
    }

-- a part whose following text is cut, and what is left of it
record Shorter (n : ℕ) (heading : List ℕ) (before : ℕ) (after : List ℕ) (x : Span) (short t : List ℕ) : Type 0 where
  left : List ℕ
  whole : after ≡ left ++ t
  long : 2 ≤ length left
  part_of : Part n heading before left x short

part-shorter : {n before : ℕ} {heading after following : List ℕ} {x : Span} (short t : List ℕ) → following ≡ short ++ t → 2 ≤ length short → Part n heading before after x following → Shorter n heading before after x short t
part-shorter {n} {before} {heading} {after} {following} {x} short t e l p =
    let left : List ℕ = newlines n ++ (heading ++ (p.written ++ short)) in
    let a = length-append (newlines n) (heading ++ (p.written ++ short)) in
    let b = length-append heading (p.written ++ short) in
    let c = length-append p.written short in
    record {
      left = left;
      whole =
          p.whole ∙ ap (λ (z : List ℕ). newlines n ++ (heading ++ (p.written ++ z))) e
          ∙ ap (λ (z : List ℕ). newlines n ++ z) (ap (λ (z : List ℕ). heading ++ z) (sym (append_assoc p.written short t)) ∙ sym (append_assoc heading (p.written ++ short) t))
          ∙ sym (append_assoc (newlines n) (heading ++ (p.written ++ short)) t);
      long = omega (arith, a, b, c);
      part_of = record { written = p.written; whole = refl; up_to = up_to_shorter short t e l p.up_to; start = p.start; len = p.len };
    }

abbrev less_parts : Parts → ℕ → Parts
less_parts p n = record { global = p.global; stream = p.stream; position = p.position; rest = record { start = p.rest.start; len = p.rest.len - n } }

sections_shorter : {p : Parts} (s t : List ℕ) → p.rest.start ≤ length s → Sections (s ++ t) p → Sections s (less_parts p (length t))
unfolding bytes
sections_shorter {p} s t l a =
    let i = (sections_inside a).rest in
    let j = length-append s t in
    let k : ℕ = length a.dat - length t in
    let d : List ℕ = take k a.dat in
    let u : List ℕ = drop k a.dat in
    let w : a.dat ≡ d ++ u = sym (take-append-drop k a.dat) in
    let lu : length u ≡ length t = omega (arith, length-drop k a.dat, i, j, a.rest_len) in
    let ld : length d ≡ p.rest.len - length t = omega (arith, ap length w ∙ length-append d u, a.rest_len) in
    let n : List ℕ = newlines (suc a.n_data) in
    let f : List ℕ = n ++ (bytes "[DATA]\n" ++ d) in
    let e : a.after_position ≡ f ++ u =
    a.rest ∙ ap (λ (z : List ℕ). n ++ (bytes "[DATA]\n" ++ z)) w ∙ ap (λ (z : List ℕ). n ++ z) (sym (append_assoc (bytes "[DATA]\n") d u))
    ∙ sym (append_assoc n (bytes "[DATA]\n" ++ d) u) in
    let m : 2 ≤ length f = omega (arith, length-append n (bytes "[DATA]\n" ++ d), length-append (bytes "[DATA]\n") d, length-replicate (suc a.n_data) newline) in
    let o = part-shorter f u e m a.position in
    let r = part-shorter o.left u o.whole o.long a.stream in
    let g = part-shorter r.left u r.whole r.long a.global in
    let ls : length s ≡ length g.left = omega (arith, ap length g.whole ∙ length-append g.left u, j, lu) in
    let q : s ≡ g.left = (append_same s g.left ls g.whole).0 in
    record {
      n_global = a.n_global;
      n_stream = a.n_stream;
      n_position = a.n_position;
      n_data = a.n_data;
      after_global = r.left;
      after_stream = o.left;
      after_position = f;
      dat = d;
      global = subst (λ (z : List ℕ). Part a.n_global (bytes "[GLOBAL]\n") 0 z p.global r.left) (sym q) g.part_of;
      stream = r.part_of;
      position = o.part_of;
      rest = refl;
      rest_start = a.rest_start;
      rest_len = sym ld;
    }

-- a file without its last bytes, where these were data, says the same record, with the data shorter
pub shorter_opens : {h : Header} (s t : List ℕ) → Says (s ++ t) h → h.datum.start ≤ length s → Says s (shorter h (length t))
shorter_opens {h} s t a l =
    let p = a.parts in
    let z : p.rest.start ≤ length s = subst (λ (x : Span). x.start ≤ length s) a.datum l in
    let b = sections_shorter s t z a.split in
    let i = sections_inside b in
    record {
      parts = less_parts p (length t);
      fits = omega (arith, a.fits, length-append s t);
      split = b;
      global = global_moved (s ++ t) s p.global (sym (own_same s t p.global i.global)) (sym (front_same s t p.global i.global)) a.global;
      global_fits = a.global_fits;
      streams = streams_moved (s ++ t) s p.stream (sym (own_same s t p.stream i.stream)) (sym (front_same s t p.stream i.stream)) a.streams;
      streams_fit = a.streams_fit;
      positions = positions_moved (s ++ t) s p.position (sym (own_same s t p.position i.position)) (sym (front_same s t p.position i.position)) a.positions;
      positions_fit = a.positions_fit;
      datum = ap (λ (x : Span). record { start = x.start; len = x.len - length t }) a.datum;
    }
