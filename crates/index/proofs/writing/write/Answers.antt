-- `write` meets its contract: its three passes are those of BuildLaws.
use Rattle.index.proofs.StepLaws.{all_sound}
use Rattle.index.proofs.BuildLaws.{grow_asks, hand_asks, sum_asks, all_done}
use Rattle.index.proofs.writing.write.Goals as goal

pub grow_all-count-requires : goal.grow_all-count-requires
grow_all-count-requires c = let t = all_sound _ c.args.table.accepted in grow_asks _ t.0 t.1 _ c.requires.roomy.1 c.requires.roomy.0

pub hand_on-requires : goal.hand_on-requires
hand_on-requires c = let t = all_sound _ c.args.table.accepted in hand_asks _ t.0 t.1 _ c.requires.roomy.1 _ _ c.grow_all-count.ensures

pub aggregate_all-requires : goal.aggregate_all-requires
aggregate_all-requires c = let t = all_sound _ c.args.table.accepted in sum_asks _ t.0 t.1 _ c.requires.roomy.1 _ _ c.grow_all-count.ensures _ c.hand_on.ensures

pub returns : goal.returns
returns c = let t = all_sound _ c.args.table.accepted in all_done _ t.0 t.1 _ c.requires.roomy.1 _ _ c.grow_all-count.ensures _ c.hand_on.ensures _ c.aggregate_all.ensures
