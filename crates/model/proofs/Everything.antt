-- One name that opens all definitions of the model, for what is proved by computing.
-- Assumes nothing.
use Prim.Native.Nat.{ℕ}
use lib.Count.{ones, ones_in}
use Rattle.sets.specs.Truth.{◌and◌, ◌or◌, ◌implies◌, isnt, when◌then◌else◌, bit, any, all, none, total}
use Rattle.sets.specs.Sets.{has, ◌∩◌, ◌∪◌, ◌∖◌, single, subset, proper_subset, collect}
use Rattle.sets.specs.Words.{value, word}
use Rattle.model.specs.Lists.{tabulate, elems, set_at, rows_at}
use Rattle.model.specs.Candidates.{place, admit, admit_meets, add_row, mined_to, candidates}
use Rattle.model.specs.Hierarchy.{candidate_count, permission_set, authorised_users, senior, immediately_senior, immediate_juniors, direct_of, direct_permissions, direct_members, building}
use Rattle.model.specs.Chains.{link, links_but, onward, follow, reached, direct_roles, roles_reached, may}
use Rattle.model.specs.Coverage.{grant, covers, covered, all_covered, spared, strikable, strikables}
use Rattle.model.specs.Quality.{weights_allowed, counted, counts, weigh, quality, tolerance_allowed}
use Rattle.model.specs.State.{roles_of, standing_now, fresh, within_limits, rows_within}
use Rattle.model.specs.Record.{header_word, region_word, word_at, built, state_of, role_rows_of, state_sound, sound}
use Rattle.model.specs.Refusals.{◌unless◌, ◌or_else◌, length_refusal, soundness_refusal, limits_refusal, crew_size_refusal, crew_rows_refusal, crew_refusal, candidates_refusal, role_refusal, pair_refusal, absent_refusal, standing_refusal, strike_refusal, weights_refusal, tolerance_refusal}
use Rattle.model.specs.Machine.{least, coverers, redundancy, before, first, foremost, after_drop, after_strike, after_stay, take_up, take_up_all, pass, passes, begin, eliminated, after_restore, try_restore, review_to, review_passes, reviewed, reply, refusal, accepted, step, state_after, replies_to}
use Rattle.model.specs.Altered.{inside, row_word, concerned}
use Rattle.model.specs.Calls.{unfit, mining_refusal, mine, edit, told, quality_of, may_of}

unfoldable pub everything : ℕ
unfolding ones ones_in ◌and◌ ◌or◌ ◌implies◌ isnt when◌then◌else◌ bit any all none total has ◌∩◌ ◌∪◌ ◌∖◌ single subset proper_subset collect value word
    tabulate elems set_at rows_at place admit admit_meets add_row mined_to candidates candidate_count permission_set authorised_users senior
    immediately_senior immediate_juniors direct_of direct_permissions direct_members building link links_but onward follow reached direct_roles roles_reached may
    grant covers covered all_covered spared strikable strikables weights_allowed counted counts weigh quality roles_of standing_now fresh
    within_limits rows_within header_word region_word word_at built state_of role_rows_of state_sound sound ◌unless◌ ◌or_else◌ length_refusal
    soundness_refusal limits_refusal crew_size_refusal crew_rows_refusal crew_refusal candidates_refusal role_refusal pair_refusal absent_refusal standing_refusal
    strike_refusal weights_refusal tolerance_refusal least coverers redundancy before first foremost
    tolerance_allowed after_drop after_strike after_stay take_up take_up_all pass passes begin eliminated after_restore try_restore review_to review_passes reviewed
    reply refusal accepted step state_after replies_to inside row_word concerned unfit mining_refusal mine edit told quality_of may_of
everything = 0
