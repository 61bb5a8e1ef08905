-- The page of promises, proved: each sentence of specs/Promises.antt under its own name.
-- Assumes nothing.
use Rattle.desk.specs.Promises as page
use Rattle.desk.proofs.Determined.{build_one, lookup_one, pairs_one, judge_one, show_one, shown_part_lem}
use Rattle.rules.proofs.TestWords.{accepted_or_refused}
use Rattle.desk.proofs.BuildLaws.{built_beyond}
use Rattle.desk.proofs.FaultlessLaws.{accepted_exact}
use Rattle.desk.proofs.PortAnswers.{lookup_no_port}
use Rattle.desk.proofs.Reasons as reasons
use Rattle.desk.proofs.LookReasons as looking
use Rattle.desk.proofs.RuleRefusals.{unknown_refuses, port_refuses}
use Rattle.desk.proofs.Demand1 as one
use Rattle.desk.proofs.Demand2 as two
use Rattle.desk.proofs.FalseBlocks.{lookup_done, counts_one}
use Rattle.desk.proofs.ListedPairs as pairs
use Rattle.desk.proofs.Demand3 as three
use Rattle.desk.proofs.MovedAnswers.{moved_same_action, moved_same_none}
use Rattle.desk.proofs.Crossings.{judge_crossing}

pub demand_1 : page.Demand1
demand_1 = record {
  build_one = build_one;
  lookup_one = lookup_one;
  pairs_one = pairs_one;
  judge_one = judge_one;
  show_one = show_one;
  show_part = shown_part_lem;
  build_unknown = λ b place. (unknown_refuses place).build b;
  pairs_unknown = λ p place. (unknown_refuses place).pairs p;
  judge_unknown = λ j place. (unknown_refuses place).judge j;
  lookup_unknown = one.lookup_unknown;
  lookup_unknown_there = one.lookup_unknown_there;
  unknown_not_built = one.unknown_not_built;
  unknown_not_listed = one.unknown_not_listed;
  unknown_not_moved = one.unknown_not_moved;
  unknown_not_answered = one.unknown_not_answered;
  none_no_action = two.none_no_action;
  answered_action = one.answered_action;
  unmatched_no_action = λ t x h l. two.unmatched_no_action t x h l;
  accepted_exact = accepted_exact;
  accepted_or_refused = accepted_or_refused;
  build_by_table = reasons.build_by_table;
  pairs_by_table = reasons.pairs_by_table;
  judge_by_table = reasons.judge_by_table;
  build_stray_port = λ b place. (port_refuses place).build b;
  pairs_stray_port = λ p place. (port_refuses place).pairs p;
  judge_stray_port = λ j place. (port_refuses place).judge j;
  lookup_no_port = lookup_no_port;
  build_short = reasons.build_short;
  pairs_short = reasons.pairs_short;
  judge_no_order = reasons.judge_no_order;
  judge_short = λ t x j. reasons.judge_short t j x;
  lookup_no_header = looking.lookup_no_header;
  lookup_ragged = λ right l. looking.lookup_ragged l right;
  lookup_many = λ right whole l. looking.lookup_many l right whole;
  lookup_short = λ right whole few short l. looking.lookup_short l right whole few short;
  build_untouched = one.build_untouched;
  pairs_untouched = one.pairs_untouched;
  judge_untouched = one.judge_untouched;
}

pub demand_2 : page.Demand2
demand_2 = record {
  build_done = reasons.build_done;
  build_beyond = built_beyond;
  lookup_match = two.lookup_match;
  lookup_none = two.lookup_none;
  pairs_done = reasons.pairs_done;
  pairs_listed = λ t p. pairs.pairs_listed p t;
  pairs_only = pairs.pairs_only;
  pairs_beyond = pairs.pairs_beyond;
  lookup_done = lookup_done;
  falses_one = counts_one;
}

pub demand_3 : page.Demand3
demand_3 = record {
  judge_exact = three.judge_exact;
  judge_either = three.judge_either;
  judge_writes = three.judge_writes;
  judge_accepted = three.judge_accepted;
  moved_same_action = moved_same_action;
  moved_same_none = moved_same_none;
  judge_crossing = judge_crossing;
  judge_in_place = three.judge_in_place;
  judge_undone = three.judge_undone;
  judge_composed = three.judge_composed;
}
