-- `write_bytes::byte_fits`: each way through.
use Rattle.write_bytes.proofs.Odd.{fits_name, fits_pattern}
use Rattle.write_bytes.proofs.byte_fits.Goals as goal

pub returns-then-name : goal.returns-then-name
returns-then-name c = fits_name c.args.x c.if-name.true c.is_name.ensures

pub returns-else-name : goal.returns-else-name
returns-else-name c = fits_pattern c.args.x c.if-name.false c.is_pattern.ensures
