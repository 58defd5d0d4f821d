-- Files that were made where none was, and what stays known then.
use Rattle.std.proofs.Common.{◌≡◌, ◌∙◌, ℕ, Bool, List, Option, Some, None, IfSome, refl, sym, ap, subst}
use Rattle.crp_files.specs.declared.roles.Role.{Role}
use Rattle.crp_files.specs.Known.{KnownFiles, IsChangedIn, IsPreparedIn, KeepsBytes}
use Rattle.crp_files.specs.Roles.{IsShared, MayBeOne, Share}

pub prepared_changes : (name : Option (List ℕ)) (old new : KnownFiles) → IsPreparedIn name old new → IsChangedIn name old new
prepared_changes None old new is = is
prepared_changes (Some n) old new is = is.changed

known_still : (o : Option (List ℕ)) → IfSome o (λ bytes. o ≡ Some bytes)
known_still None = tt
known_still (Some bytes) = refl

pub prepared_keeps : (name : Option (List ℕ)) (old new : KnownFiles) → IsPreparedIn name old new → KeepsBytes old new
prepared_keeps None old new is = λ other. subst (λ (k : KnownFiles). IfSome (old.given other) (λ bytes. k.given other ≡ Some bytes)) (sym is) (known_still (old.given other))
prepared_keeps (Some n) old new is = is.kept

keeps_then : (one two three : Option (List ℕ)) → IfSome one (λ bytes. two ≡ Some bytes) → IfSome two (λ bytes. three ≡ Some bytes) → IfSome one (λ bytes. three ≡ Some bytes)
keeps_then None two three first second = tt
keeps_then (Some bytes) two three first second = subst (λ (o : Option (List ℕ)). IfSome o (λ b. three ≡ Some b)) first second

pub keeps_twice : (old middle new : KnownFiles) → KeepsBytes old middle → KeepsBytes middle new → KeepsBytes old new
keeps_twice old middle new first second = λ name. keeps_then (old.given name) (middle.given name) (new.given name) (first name) (second name)

-- ---- two roles of one file, where the same is known of names

pub shared_still : (named : Role → Option (List ℕ)) (old new : KnownFiles) → new.are_one ≡ old.are_one → IsShared old named → IsShared new named
shared_still named old new same (written, other, (must, one)) = (
  written,
  other,
  (
    must,
    record {
      first = one.first;
      second = one.second;
      is = one.is;
      is_other = one.is_other;
      one = ap (λ (f : List ℕ → List ℕ → Option Bool). f one.first one.second) same ∙ one.one;
    },
  ),
)

pub may_share_before : (named : Role → Option (List ℕ)) (old new : KnownFiles) (written other : Role) → new.are_one ≡ old.are_one
    → Share (MayBeOne new) named written other → Share (MayBeOne old) named written other
may_share_before named old new written other same (must, may) = (
  must,
  record {
    first = may.first;
    second = may.second;
    is = may.is;
    is_other = may.is_other;
    not_two = λ two. may.not_two (ap (λ (f : List ℕ → List ℕ → Option Bool). f may.first may.second) same ∙ two);
  },
)
