-- What the search leaves open of `assigning::assign_responders`.
use Rattle.std.proofs.Common.{rules, ◌≡◌, ◌∙◌, List, ◌∷◌, ◌<◌, length, refl, sym, ap, subst}
use Rattle.std.specs.Prelude.{All, None, vec_len}
use Rattle.std.specs.List.{range_with_len}
use Rattle.std.proofs.lemmas.List.{nil_from_length}
use Rattle.std.proofs.lemmas.List.Elements.{All-head}
use Rattle.kiss_gate.specs.Gates.{Gate}
use Rattle.packet_auth.specs.Keys.{keys_of}
use Rattle.station_values.specs.Station.{gate_of}
use Rattle.station_crew.specs.Collecting.{link_of, number_of, serve_pass}
use Rattle.feed_workers.proofs.ListLaws.{all_pushed, all_rest, first_removed, moved, numbered_more}
use Rattle.station_crew.proofs.assigning.assign_responders.Goals as goal

pub loop-preserved : goal.loop-preserved
loop-preserved g c =
    let i = c.loop.invariant in
    let P : Gate → Type 0 = λ z. z ≡ gate_of c.args.station.now in
    let pushed = c.push_reserved.ensures.items in
    let some : 0 < length c.loop.gates.items = search rules in
    let one : 0 < length c.loop.links.items = search rules in
    let more : 0 < length c.loop.readers.items = search rules in
    let split = first_removed c.loop.gates.items c.remove-gate.result c.remove-gate.ensures.value some ∙ ap (λ l. c.remove-gate.result ∷ l) (sym c.remove-gate.ensures.items) in
    let taken = first_removed c.loop.links.items c.remove-link.result c.remove-link.ensures.value one ∙ ap (λ l. c.remove-link.result ∷ l) (sym c.remove-link.ensures.items) in
    let passed = first_removed c.loop.readers.items c.remove-pass.result c.remove-pass.ensures.value more ∙ ap (λ l. c.remove-pass.result ∷ l) (sym c.remove-pass.ensures.items) in
    let first : c.remove-gate.result ≡ gate_of c.args.station.now = All-head P c.remove-gate.result c.remove-gate.new.self.items (subst (λ (l : List Gate). All P l) split i.alike) in
    let number : c.new.result.number ≡ vec_len c.loop.jobs = search rules in
    record {
      links = moved link_of c.loop.jobs.items c.push_reserved.new.self.items _ _ _ _ _ pushed taken c.new.ensures.0 i.links;
      passes = moved serve_pass c.loop.jobs.items c.push_reserved.new.self.items _ _ _ _ _ pushed passed c.new.ensures.1 i.passes;
      numbers = numbered_more number_of c.loop.jobs.items c.push_reserved.new.self.items _ (vec_len c.loop.jobs) _ pushed number c.push_reserved.ensures.len i.numbers;
      none = all_pushed (λ j. j.work.second ≡ None) c.loop.jobs.items c.push_reserved.new.self.items _ pushed i.none refl;
      keyed = all_pushed (λ j. keys_of j.responder.keys ≡ c.args.station.now.keys) c.loop.jobs.items c.push_reserved.new.self.items _ pushed i.keyed (ap keys_of c.new.ensures.3 ∙ c.keys-keys.ensures.value);
      gated = all_pushed (λ j. j.responder.clients ≡ gate_of c.args.station.now) c.loop.jobs.items c.push_reserved.new.self.items _ pushed i.gated (c.new.ensures.4 ∙ first);
      alike = all_rest P _ _ _ split i.alike;
      left = search rules;
      whole = search rules;
      gates = search rules;
      enough = search rules;
      few = search rules;
      room = search rules;
      links_room = c.remove-link.ensures.capacity ∙ i.links_room;
      readers_room = c.remove-pass.ensures.capacity ∙ i.readers_room;
    }

pub returns-clause-emptied : goal.returns-clause-emptied
returns-clause-emptied g c = nil_from_length _ (search rules)

pub returns-clause-numbers : goal.returns-clause-numbers
returns-clause-numbers g c = c.loop.invariant.numbers ∙ ap (range_with_len 0) (search rules)
