-- What a model of a file is, is one thing; bytes behind the file change nothing of it.
use mathlib.Core.Path.{◌≡◌, sym, ap, subst}
use mathlib.Core.List.{List, ◌++◌}
use Prim.Native.Nat.{ℕ, ◌+◌}
use lib.ListN.{length, take, drop}
use Rattle.written.specs.HeaderText.{Range}
use Rattle.written.specs.Record.{Header, Says}
use Rattle.written.specs.Blocks as block
use Rattle.written.specs.Said.{Text}
use Rattle.written.specs.TreeText as tree
use Rattle.written.specs.Models.{Model, data_of, TextOf}
use Rattle.written.specs.Trailer.{longer}
use Rattle.written.specs.Loading.{ModelSaid}
use Rattle.written.specs.House.{SaysModel}
use Rattle.written.proofs.Once.{says_once}
use Rattle.written.proofs.OneBlock.{block_one}
use Rattle.written_models.proofs.OneModel.{placed_one}
use Rattle.written_models.proofs.LongerModels.{placed-longer, inside_longer, front-longer, block_longer}

said_path : {x y : ModelSaid} → x.text ≡ y.text → x.rows ≡ y.rows → x.width ≡ y.width → x.values ≡ y.values → x ≡ y
said_path a b c d = λ i. record { text = a i; rows = b i; width = c i; values = d i }

module _ {widen : ℕ → ℕ} {s : List ℕ} {h : Header} where
  -- its text is one that a trailer may point into
  pub model_text : {m : Model} {x : ModelSaid} (a : SaysModel widen s h m x) → TextOf s h m x.text a.layout
  model_text a =
      record {
        tree = a.reads.text_at;
        block = a.reads.block_range;
        width = _;
        placed = a.reads.placed;
        inside = a.reads.text_inside;
        says = a.reads.text_says;
        natural = a.reads.natural;
      }

  pub says_model_one : {m : Model} {x y : ModelSaid} → SaysModel widen s h m x → SaysModel widen s h m y → x ≡ y
  says_model_one {m} {x} {y} a b =
      let p = placed_one a.reads.placed b.reads.placed in
      let t = says_once (subst (λ (r : Range). tree.Says (take (r.to + 1) (data_of s h)) r.from x.text a.layout) p.0 a.reads.text_says) b.reads.text_says in
      let k = subst (λ (r : Range). block.Block widen (length x.text.trees) x.width (drop r.from (take (r.to + 1) (data_of s h))) x.rows x.values) p.1 a.reads.block_says in
      let l = subst (λ (n : ℕ). block.Block widen n x.width (drop b.reads.block_range.from (take (b.reads.block_range.to + 1) (data_of s h))) x.rows x.values) (ap (λ (z : Text). length z.trees) t.0) k in
      let q = block_one (subst (λ (n : ℕ). block.Block widen (length y.text.trees) n (drop b.reads.block_range.from (take (b.reads.block_range.to + 1) (data_of s h))) x.rows x.values) p.2 l) b.reads.block_says in
      said_path t.0 q.0 p.2 q.1

  -- a model that could be loaded is the same after bytes were put behind the file
  pub model_longer : Says s h → (t : List ℕ) → {m : Model} {x : ModelSaid} → SaysModel widen s h m x → SaysModel widen (s ++ t) (longer h (length t)) m x
  model_longer o t {m} {x} a =
      record {
        layout = a.layout;
        trees = a.trees;
        records = a.records;
        reads =
            record {
              text_at = a.reads.text_at;
              block_range = a.reads.block_range;
              placed = placed-longer o t a.reads.placed;
              narrow = a.reads.narrow;
              text_inside = inside_longer o t a.reads.text_inside;
              text_says = subst (λ (d : List ℕ). tree.Says d a.reads.text_at.from x.text a.layout) (sym (front-longer o t a.reads.text_at a.reads.text_inside)) a.reads.text_says;
              natural = a.reads.natural;
              block_inside = inside_longer o t a.reads.block_inside;
              block_says = subst (λ (d : List ℕ). block.Block widen (length x.text.trees) x.width d x.rows x.values) (sym (block_longer o t a.reads.block_range a.reads.block_inside)) a.reads.block_says;
            };
        linked = a.linked;
      }
