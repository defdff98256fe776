-- A tile is read from its first item on.
use Rattle.std.proofs.Common.{◌+◌, ◌*◌, ◌∙◌, length-drop, arith}
use Rattle.p3_util_kernels.proofs.PlacesLemmas.ListParts.{slice_get-drop}
use Rattle.p3_util_kernels.proofs.transpose.tile.read_tile.Goals as goal

pub collect_tile-requires : goal.collect_tile-requires
collect_tile-requires g c =
    let items = g.R.Source.items c.args.matrix.source in (
      omega (arith, c.requires.small),
      (
        λ r k hr hk. omega (arith, length-drop c.place_in-from.result items, c.place_in-from.ensures, c.requires.read r k hr hk),
        c.requires.small,
      ),
    )

pub returns : goal.returns
returns g c = λ x y hx hy.
    c.collect_tile.ensures x y hx hy
    ∙ slice_get-drop c.place_in-from.result (g.R.Source.items c.args.matrix.source) (y * c.args.matrix.width + x) ((c.args.row + y) * c.args.matrix.width + (c.args.col + x)) (omega (arith, c.place_in-from.ensures))
