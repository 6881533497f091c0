-- The six tables are what they are to be, and so no occurrence goes past them.
use Rattle.nib_mask.proofs.TableLemmas.{covers-from_set, table_value-is}
use Rattle.nib_mask.proofs.masks.Masks.of.Goals as goal

pub returns-clause-set : goal.returns-clause-set
returns-clause-set c =
    let l = c.args.list.now in
    rw (← c.as_slice-ends.ensures.value) (table_value-is l _ _ (record {
      low_0 = c.table.ensures;
      low_1 = c.table-2.ensures;
      low_2 = c.table-3.ensures;
      high_0 = c.table-4.ensures;
      high_1 = c.table-5.ensures;
      high_2 = c.table-6.ensures;
    }))

pub returns-clause-covers : goal.returns-clause-covers
returns-clause-covers c = covers-from_set c.args.list.now c.args.ends.now.items _ c.requires c.normal_law.ensures.nonempty (returns-clause-set c)
