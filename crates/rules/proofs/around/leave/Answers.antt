use Rattle.std.proofs.Common.{None, reverse, take, refl, ap, subst, ◌∙◌}
use Rattle.std.proofs.lemmas.Result.{on_ok_weaker}
use Rattle.rules.specs.Around.{chosen, gathers_in, TellsText}
use Rattle.rules.proofs.around.leave.Goals as goal

pub returns : goal.returns
returns c =
    let u = c.last_unused.ensures in
    let text = c.args.text.now.items in
    on_ok_weaker c.add.result (λ a. record {
      first = c.tell_end.new.found.items;
      mid = c.tell_text.new.found.items;
      tells = c.in-Ok.ensures;
      spells =
          subst (λ z. TellsText c.args.mode c.args.contents c.args.value z c.args.rest.now c.args.at c.tell_end.new.found.items c.tell_text.new.found.items)
          c.deref.ensures.value c.in-Ok-tell_text.ensures;
      text_is =
          c.ungather.ensures
          ∙ ap (λ z. chosen z text (take c.args.value.from text))
          (c.gathers_in-gathers.ensures ∙ ap (λ z. gathers_in (reverse z)) c.deref-2.ensures.value);
      adds = record {
        element = record { place = c.args.value.place; size = None; unused = c.last_unused.result; octets = c.until.result };
        outline_is = rw u refl;
        octets_are = c.until.ensures;
        adds = a;
      };
    }) c.add.ensures
