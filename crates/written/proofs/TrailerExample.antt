-- A trailer byte by byte, and the rows of three trees.
use mathlib.Core.Path.{◌≡◌, refl}
use mathlib.Core.Bool.{true}
use mathlib.Core.List.{List, [], ◌∷◌}
use Prim.Native.Nat.{ℕ, ◌^◌}
use borrow.Author.Tests.{ltb-true}
use lib.Dec.{ltb}
use lib.IntN.{pos, negsuc, neg_ℤ}
use Rattle.written.specs.Blocks.{little_endian, Below32, total}
use Rattle.written.specs.Said.{Ref, node, pdf, Line, lone, braces}
use Rattle.written.specs.Linking.{Single, alone, alike}
use Rattle.written.specs.Tables.{LinesOf}
use Rattle.written.specs.Trailer.{TrailerRows, sum32, Trailer}

-- "ab" with the rows (0, 9, 2) and (0, 300, 0): 2 rows from byte 2 on; the sum is 97 + 98, 9 + 2, 44 + 1, 2 + 2
example : Trailer (97 ∷ 98 ∷ []) (0 ∷ 9 ∷ 2 ∷ 0 ∷ 300 ∷ 0 ∷ [])
    (0 ∷ 0 ∷ 0 ∷ 0 ∷ 9 ∷ 0 ∷ 0 ∷ 0 ∷ 2 ∷ 0 ∷ 0 ∷ 0 ∷ 0 ∷ 0 ∷ 0 ∷ 0 ∷ 44 ∷ 1 ∷ 0 ∷ 0 ∷ 0 ∷ 0 ∷ 0 ∷ 0 ∷ 2 ∷ 0 ∷ 0 ∷ 0 ∷ 2 ∷ 0 ∷ 0 ∷ 0 ∷ 255 ∷ 0 ∷ 0 ∷ 0 ∷ [])
unfolding little_endian total sum32
example = record { count = 2; threes = refl; below = small 0 refl (small 9 refl (small 2 refl (small 0 refl (small 300 refl (small 0 refl (small 2 refl (small 2 refl Below32.end))))))); whole = refl }
  where
    small : (n : ℕ) {ns : List ℕ} → ltb n (2 ^ 32) ≡ true → Below32 ns → Below32 (n ∷ ns)
    small n e b = Below32.next (ltb-true n (2 ^ 32) e) b

abbrev line : ℕ → Ref → Ref → Line
line k n y = record { id = neg_ℤ (pos k); question = 65 ∷ []; no = n; yes = y }

two_lines : {l m : Line} {ls : List Line} {r : Ref} → Single (braces (l ∷ m ∷ ls)) r → ⊥
two_lines h = elim h [ ]

-- {*}[2]{ 0 A -1 p_3 / -1 A p_1 p_3 }, {*}[2]{ 5 A p_1 p_1 }, {*}[2]p_1 as the trees of stream 1
rows : TrailerRows 3
    (record { state = pos 2; body = braces (line 0 (node (negsuc 0)) (pdf 3) ∷ line 1 (pdf 1) (pdf 3) ∷ []) } ∷ record { state = pos 2; body = braces (line 5 (pdf 1) (pdf 1) ∷ []) } ∷ record { state = pos 2; body = lone (pdf 1) } ∷ [])
    (record { star = 9; names = [] } ∷ record { star = 43; names = [] } ∷ record { star = 70; names = [] } ∷ [])
    (3 ∷ 9 ∷ 2 ∷ 3 ∷ 43 ∷ 0 ∷ 3 ∷ 70 ∷ 0 ∷ [])
rows = TrailerRows.more (LinesOf.lines (λ r s. two_lines s)) (TrailerRows.more (LinesOf.single (alike refl refl)) (TrailerRows.more (LinesOf.single alone) TrailerRows.none))
