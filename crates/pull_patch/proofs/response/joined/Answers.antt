use Rattle.std.proofs.Common.{option_map, Ok, refl, sym, ap}
use Rattle.group_history.specs.declared.responses.Response.TheVariants as response
use Rattle.group_history.specs.Pull.{Pull}
use Rattle.pull_patch.proofs.Joins.{no_changes, no_patch}
use Rattle.pull_patch.proofs.response.joined.Goals as goal

pub returns-in_default : goal.returns-in_default
returns-in_default c = rw c.in_default.is refl

pub returns-in_default-changes : goal.returns-in_default-changes
returns-in_default-changes c = sym (rw c.in_default-changes.is
    (no_changes c.args.cookie (option_map (λ v. v.items) c.args.patch)))

pub returns-in_default-patch : goal.returns-in_default-patch
returns-in_default-patch c = sym (rw c.in_default-patch.is
    (no_patch c.args.cookie (option_map (λ v. v.items) c.args.changes)))

pub returns : goal.returns
returns c = sym (rw (c.in-Some.is, c.in-Some-changes.is, c.in-Some-patch.is)
    (ap (λ (p : Pull). Ok (response.Ok p)) (sym c.new.ensures)))
