-- K1 to K12 hold of the definitions, by computation.
-- Assumes nothing.
use mathlib.Core.Path.{refl}
use mathlib.Core.List.{zip_with, flatten}
use lib.Count.{count_trailing_zeros}
use Rattle.bits.specs.Number.{number_from, number, number_at, bytes_of}
use Rattle.bits.specs.Path.{bits, prefix, leads, stray, same_path, common}
use Rattle.bits.specs.Word.{word_of, pack, bit, aggregate, and_all}
use Rattle.bits.specs.Tests.{any, all, each, up_from, lowest, count}
use Rattle.rules.specs.Field.{value_in}
use Rattle.rules.specs.Action.{decoded, action_in, is_unknown, same_action}
use Rattle.rules.specs.Rule.{has, span_of, rule_of}
use Rattle.rules.specs.Ports.{size_of, takes_all, takes_only, asks_port, has_ports}
use Rattle.rules.specs.Overlap.{span_share, share, span_covers, covers, span_low, lowest_shared}
use Rattle.rules.specs.Refusal.{first_refusal}
use Rattle.rules.specs.Table.{record_at, rules_of, long_prefix, stray_bit, unknown_action, spare_bytes, stray_port, rule_tests, first_failed, fault, rule_said, faulty, place_said, rules_said, verdict}
use Rattle.rules.specs.Header.{header_values, header_bytes}
use Rattle.rules.specs.Match.{matches, first_match, matches_in, block_of, deceives, blocks_before, false_blocks}
use Rattle.index.specs.Key.{same_key, has_record, place_from, hit}
use Rattle.index.specs.Keys.{grown, grow, steps_from, insert, insert_all, rule_inserts, inserts, roots_from, keys}
use Rattle.index.specs.Image.{child, vector, record_of, image}
use Rattle.index.specs.Need.{common_with, longest, fresh, records, need}
use Rattle.lookup.specs.Said.{action_values, match_said, no_match_said}
use Rattle.lookup.specs.Answer.{winner_said, rules_answer, answer_said}
use Rattle.lookup.specs.Walk.{row_at, bad, walk_from, walk, ends, summaries_at, vector_at}
use Rattle.lookup.specs.Scan.{scan, meet, resolve}
use Rattle.lookup.specs.Look.{keys_from, header_keys, lookup_steps, found_said, steps_said, look_said}
use Rattle.overlap.specs.Pairs as pairs
use Rattle.overlap.specs.Order as orders
use Rattle.overlap.specs.Judge.{clashes, overtaken, crossing}
use Rattle.desk.specs.JudgeCall.{order_said, output_said, crossing_said, judge_said}
use Rattle.desk.specs.Worked.{AllWorked}

pub worked : AllWorked
unfolding number_from number number_at bits prefix leads stray same_path common word_of pack aggregate any up_from lowest value_in decoded action_in is_unknown rule_of record_at rules_of long_prefix stray_bit unknown_action spare_bytes size_of takes_all takes_only asks_port has_ports stray_port rule_tests first_failed fault rule_said faulty place_said rules_said verdict same_key has_record place_from hit grown grow steps_from insert insert_all rule_inserts inserts roots_from keys child vector record_of image common_with longest fresh records need each zip_with flatten span_of span_share share span_covers covers span_low lowest_shared same_action first_refusal bytes_of pairs.row pairs.triangle pairs.keep pairs.first_of pairs.listed pairs.on_pair pairs.pairs_of pairs.entries orders.member orders.apart_below orders.is_order orders.new_place clashes overtaken crossing header_bytes order_said output_said crossing_said judge_said count_trailing_zeros bit and_all all count has header_values matches first_match matches_in block_of deceives blocks_before false_blocks action_values match_said no_match_said winner_said rules_answer answer_said row_at bad walk_from walk ends summaries_at vector_at scan meet resolve keys_from header_keys lookup_steps found_said steps_said look_said
worked = refl
