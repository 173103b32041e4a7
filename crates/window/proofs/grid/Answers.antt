use Rattle.window.specs.Layout.{registers}
use Rattle.window.proofs.Theory.Rows.{grid_scaled, grid_small}
use Rattle.window.proofs.grid.Goals as goal

pub overflow_mul-result : goal.overflow_mul-result
overflow_mul-result c = record { fits = rw (c.first_flags.ensures, c.from.ensures) (grid_small registers c.args.one c.args.two c.ranges.two.fits) }

pub returns : goal.returns
returns c = rw (c.first_flags.ensures, c.from.ensures) (grid_scaled registers c.args.one c.args.two)
