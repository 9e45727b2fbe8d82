-- One name that unfolds all definitions: a proof by computation says `unfolding computes`.
-- Assumes nothing.
use Rattle.meaning.specs.If.{when◌then◌else◌}
use Rattle.meaning.specs.Terms.{count, inst, insts, from, occurs, occurs_in, values_from, row}
use Rattle.meaning.specs.Kinds.{body_lengths, body_length}
use Rattle.meaning.specs.Reading.{after, ◌>>=◌, ◌>>◌, give, refuse, need, terms, goals, none_seen, all_seen, term_due, goal_due, end_due, item_due}
use Rattle.meaning.specs.Reading.{byte, two_bytes, next, variable, applied, term, arguments, called, goal, clause, query, no_more, items, parse_within}
use Rattle.meaning.specs.Store.{only, value, onward, follow}
use Rattle.meaning.specs.Answers.{has, appear, appears, index, renumbered, two, write, writes, write_each, write_step, pieces, bytes_of, bytes, output, fitting}
use Rattle.meaning.specs.Moves.{nothing, spend, list, clauses_of, over, body_goal, query_goal, pairs, with_goals, with_binding, with_step, keep, fail}
use Rattle.meaning.specs.Moves.{answer, answered, put_out, answering, take_goal, go_on, matching, binding, compared, take_pair, try_head, move, start_keeping, run}
use Rattle.meaning.specs.Call.{in_range, needed, ending, run_read, result_by, output_after, scratch_after}
use Rattle.meaning.specs.Embedded.{embedded_limits, embedded_in, embedded_by, packed, decimal, number, end_word, answers_word, units_word, bytes_word, too_small_words, refused_word, at_word, too_small, line, printed, program}

unfoldable pub computes : Type 1
unfolding when◌then◌else◌ count inst insts from occurs occurs_in values_from row body_lengths body_length after ◌>>=◌ ◌>>◌ give refuse need terms goals none_seen all_seen term_due goal_due end_due item_due byte two_bytes next variable applied term arguments called goal clause query no_more items parse_within only value onward follow has appear appears index renumbered two write writes write_each write_step pieces bytes_of bytes output fitting nothing spend list clauses_of over body_goal query_goal pairs with_goals with_binding with_step keep fail answer answered put_out answering take_goal go_on matching binding compared take_pair try_head move start_keeping run in_range needed ending run_read result_by output_after scratch_after embedded_limits embedded_in embedded_by packed decimal number end_word answers_word units_word bytes_word too_small_words refused_word at_word too_small line printed program
computes = Type 0
