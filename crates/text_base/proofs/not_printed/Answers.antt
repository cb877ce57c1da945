-- `text_base::not_printed`: the difference that wraps is the definition's.
use Rattle.text_base.proofs.Ahead.{is_unprinted}
use Rattle.text_base.proofs.not_printed.Goals as goal

pub returns : goal.returns
returns c = is_unprinted _ _ _ c.wrapping_sub_u64.ensures.value c.wrapping_sub_u64.type_inv c.eight-bytes.type_inv c.eight-bytes.ensures
