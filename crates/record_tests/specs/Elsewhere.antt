-- a sample vector for the tests, which decides nothing itself
use Rattle.std.specs.Prelude.{ℕ, ◌≡◌, ◌<◌, ◌^◌, Bool, true, false, [], ◌∷◌, refl}
use Rattle.std.proofs.Common.{lit<}
use Rattle.std.proofs.lemmas.List.Elements.{All-nil, All-cons}
use Rattle.unix_names.specs.declared.Pid.{Pid}
use Rattle.unix_names.specs.declared.Name.TheVariants.{V}
use Rattle.unix_names.specs.Names.{pid_of}
use Rattle.record_bag.specs.declared.bag.Bag.{Bag}
use Rattle.record_bag.specs.declared.vector.Site.{Site}
use Rattle.record_bag.specs.declared.vector.Outcome.TheVariants.{Need, Away}
use Rattle.record_bag.specs.Bags.{is_held}
use Rattle.record_bag.specs.Decisions.{Answered, answered, IsLawful}

-- the process's own record is needed, and with it the question goes to the site's node
abbrev pub elsewhere_if : Bool → Pid → Bag → Site → Answered
elsewhere_if true pid bag site = answered (Away site.node) bag
elsewhere_if false pid bag site = answered (Need (V pid ∷ [])) bag

abbrev pub elsewhere : Pid → Bag → Site → Answered
elsewhere pid bag site = elsewhere_if (is_held bag (V pid)) pid bag site

lawful_if : (b : Bool) (pid : Pid) (bag : Bag) (site : Site) → is_held bag (V pid) ≡ b → pid.0 < 2 ^ 32 → IsLawful bag (elsewhere_if b pid bag site)
lawful_if true pid bag site held fits = refl
lawful_if false pid bag site held fits = (
  record {
    some = lit< tt;
    lacking = All-cons (λ n. is_held bag n ≡ false) (V pid) [] held (All-nil (λ n. is_held bag n ≡ false));
    rising = (tt, tt);
    in_range = All-cons (λ n. pid_of n < 2 ^ 32) (V pid) [] fits (All-nil (λ n. pid_of n < 2 ^ 32));
  },
  refl,
)

-- its answers keep the law
pub lawful_elsewhere : (pid : Pid) (bag : Bag) (site : Site) → pid.0 < 2 ^ 32 → IsLawful bag (elsewhere pid bag site)
lawful_elsewhere pid bag site fits = lawful_if (is_held bag (V pid)) pid bag site refl fits
