-- `grow_all` meets its contract: the five roots are cleared, then all rules go in.
use Rattle.std.proofs.Common.{rules}
use Rattle.index.proofs.StepLaws.{all_sound, room_roots, all_start, all_grown}
use Rattle.index.proofs.writing.grow_all.Goals as goal

pub rooted-growth-requires : goal.rooted-growth-requires
rooted-growth-requires c = room_roots _ _ _ (all_sound _ c.args.table.accepted).1 c.requires

pub grow_rules-requires : goal.grow_rules-requires
grow_rules-requires c = record { room = all_start _ _ (all_sound _ c.args.table.accepted).1 c.requires c.rooted-growth.result c.rooted-growth.ensures.rooted }

pub returns : goal.returns
returns c = all_grown _ _ c.rooted-growth.result c.grow_rules.new.growth c.rooted-growth.ensures.rooted c.grow_rules.ensures.grown _ (search rules)
