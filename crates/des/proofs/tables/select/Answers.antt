use Rattle.std.proofs.Common.{[], get_or, ◌∙◌, ap₂}
use Rattle.des.specs.Cipher.{S}
use Rattle.des.specs.Tables.{S_tables}
use Rattle.des.proofs.Selections.{row_of, column_of, row_is, column_is}
use Rattle.des.proofs.tables.select.Goals as goal

pub returns : goal.returns
unfolding S S_tables row_of column_of
returns c =
    ap₂ (λ r k. get_or (get_or (get_or S_tables c.args.i []) r []) k 0) (c.from.ensures ∙ row_is c.args.group c.ranges.group.fits) (c.from-2.ensures ∙ column_is c.args.group c.ranges.group.fits)
