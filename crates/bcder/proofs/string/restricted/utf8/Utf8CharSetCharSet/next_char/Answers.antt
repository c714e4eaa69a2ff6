use Rattle.bcder.specs.steps.Utf8Leads.{of_lead}
use Rattle.bcder.proofs.Utf8.{of_one, of_none, of_several, of_refused}
use Rattle.bcder.proofs.string.restricted.utf8.Utf8CharSetCharSet.next_char.Goals as goal

pub returns-then-octet-lt128 : goal.returns-then-octet-lt128
returns-then-octet-lt128 c = of_one c.in-Some.octet c.args.octets.now.octets c.next.new.self.octets c.in-Some.ensures.steps c.if-octet-lt128.true

pub returns-in_default-lead_of : goal.returns-in_default-lead_of
returns-in_default-lead_of c =
    of_none c.in-Some.octet c.args.octets.now.octets c.next.new.self.octets c.in-Some.ensures.steps c.if-octet-lt128.false c.in_default-lead_of.ensures.told

pub returns-in_err-take_behind : goal.returns-in_err-take_behind
returns-in_err-take_behind c =
    of_refused c.from_residual.result _ c.in-Some.octet c.args.octets.now.octets c.next.new.self.octets c.take_behind.new.octets.octets
    (of_lead c.in-Some-lead_of.lead) c.from_residual.ensures.1
    c.in-Some.ensures.steps c.if-octet-lt128.false c.in-Some-lead_of.ensures.told c.in_err-take_behind.ensures

pub returns-in-Some-from_u32 : goal.returns-in-Some-from_u32
returns-in-Some-from_u32 c =
    of_several c.in-Some.octet c.args.octets.now.octets c.next.new.self.octets c.take_behind.new.octets.octets (of_lead c.in-Some-lead_of.lead)
    c.in_ok-take_behind.field-0 c.in-Some-from_u32.character
    c.in-Some.ensures.steps c.if-octet-lt128.false c.in-Some-lead_of.ensures.told c.in_ok-take_behind.ensures c.in-Some-from_u32.ensures.value.1
