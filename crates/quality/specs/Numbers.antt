-- The functions' numbers in the model's terms, and how large they can be.
-- Assumes nothing.
use Rattle.std.specs.Prelude.{ℕ, ◌≤◌}
use Rattle.model.specs.Quality as model
use Rattle.quality.specs.declared.counts.Counts.{Counts}
use Rattle.quality.specs.declared.weights.Weights.{Weights}
use Rattle.quality.specs.declared.weights.Tolerance.{Tolerance}

-- the counts, the weights and the tolerance that the structs hold
unfoldable pub counts_in : Counts → model.Counts
counts_in q = record { roles = q.roles; members = q.members; permissions = q.permissions; links = q.links }

unfoldable pub weights_in : Weights → model.Weights
weights_in w = record { per_role = w.role; per_member = w.member; per_permission = w.permission; per_link = w.link }

unfoldable pub tolerance_in : Tolerance → model.Tolerance
tolerance_in t = record { numerator = t.numerator; denominator = t.denominator }

-- how large the counts can be, whatever words the record holds: at most 128 roles, with 128 members, 256 permissions and 128 links each
abbrev pub most_roles : ℕ
most_roles = 128

abbrev pub most_direct_members : ℕ
most_direct_members = 16384

abbrev pub most_direct_permissions : ℕ
most_direct_permissions = 32768

abbrev pub most_links : ℕ
most_links = 16384

pub record Few (q : Counts) : Type 0 where
  pub roles : q.roles ≤ most_roles
  pub members : q.members ≤ most_direct_members
  pub permissions : q.permissions ≤ most_direct_permissions
  pub links : q.links ≤ most_links

-- and the quality of such counts, with weights of at most 1,000
abbrev pub most_quality : ℕ
most_quality = 65664000
