use Rattle.std.proofs.Common.{◌<◌, ◌∙◌, length, sym, refl, rules, tests}
use Rattle.std.proofs.lemmas.Option.{slice_get_read}
use Rattle.group_record.proofs.DistinctLaws.{place-found}
use Rattle.group_record.proofs.member.stands_at.Goals as goal

pub returns-in-Some : goal.returns-in-Some
returns-in-Some c = λ own.
    let ms = c.args.members.now in
    let within : c.args.at < length ms = search (rules, tests) in
    place-found c.args.p ms c.args.at c.in-Some.m.now c.requires (slice_get_read ms (length ms) c.args.at c.in-Some.m.now refl within c.in-Some.ensures.lookup.1) (sym c.eq.ensures ∙ own)
