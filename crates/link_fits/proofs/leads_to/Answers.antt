-- `link_fits::leads_to`: by the target.
use mathlib.Core.Path.{sym, ap, ◌∙◌}
use Rattle.link_fits.specs.Fits.{leads_to}
use Rattle.link_fits.specs.declared.Target.{Target}
use Rattle.link_fits.proofs.leads_to.Goals as goal

pub returns-in-Line : goal.returns-in-Line
returns-in-Line c = sym (ap (λ (t : Target). leads_to c.args.records.now t c.args.row) c.in-Line.is)

pub returns-in-Leaf : goal.returns-in-Leaf
returns-in-Leaf c = c.is_leaf_of.ensures ∙ sym (ap (λ (t : Target). leads_to c.args.records.now t c.args.row) c.in-Leaf.is)

pub returns-in-Nowhere : goal.returns-in-Nowhere
returns-in-Nowhere c = sym (ap (λ (t : Target). leads_to c.args.records.now t c.args.row) c.in-Nowhere.is)
