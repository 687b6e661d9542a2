use Rattle.std.proofs.Common.{◌≡◌, ap, sym, subst, ◌∙◌, refl, arith}
use Rattle.std.proofs.Math.ListN.{length-set}
use Rattle.std.specs.Prelude.{Option, IfSome}
use Rattle.oca_types.specs.declared.words.Command.{Command}
use Rattle.oca_types.specs.Replies.{Reply, reply_in}
use Rattle.oca_types.specs.Peers.{fields_of}
use Rattle.oca_types.specs.Sizes.{sizes_of}
use Rattle.oca_session.specs.Accepted.{Entry, Fresh}
use Rattle.oca_session.specs.Judging.{judgement_by_window}
use Rattle.oca_session.specs.Table.{Session, Table, session_of, with_entry}
use Rattle.oca_session.proofs.Tables.{changed_in, session_in, one_in, sound_in, entry_sound, quiet_kept}
use Rattle.oca_session.proofs.sessions.SessionsOf.put.Goals as goal

abbrev kept : Command → Reply → Entry
kept d r = record { command = fields_of d; reply = r }

pub keep-requires : goal.keep-requires
keep-requires g c =
    let a = c.self.inside in
    let at = c.index_of_known-at in
    let fresh : Option Session → Type 0 = λ o. IfSome o (λ s. judgement_by_window s.retained (fields_of c.args.command.now) ≡ Fresh) in
    let seen = ap (λ t. session_of c.args.peer t.sessions) c.self.view_is in
    let found = session_in c.args.peer a.slots.items c.self.inside.slots.items a.count at.result _
    refl (rw (← c.self.view_is) at at.ensures.place) c.index_mut.ensures.value in
    (omega arith, (subst fresh (sym seen ∙ found) c.requires.fresh, (c.requires.room, c.requires.short)))

pub invariant_of-self : goal.invariant_of-self
invariant_of-self g c =
    let a = c.self.inside in
    let at = c.index_of_known-at in
    let f = with_entry (kept c.args.command.now (reply_in c.args.reply)) in (
      c.self.invariant.0,
      length-set a.slots.items at.result _ ∙ c.self.invariant.1,
      sound_in a.sizes.window.size c.args.peer f (entry_sound a.sizes.window.size _) a.slots.items c.self.inside.slots.items a.count at.result _ _
          c.self.invariant.2 refl (rw (← c.self.view_is) at at.ensures.place) c.index_mut.ensures.value c.keep.ensures,
      one_in c.args.peer f (λ s. refl) a.slots.items c.self.inside.slots.items a.count at.result _ _
          c.self.invariant.3 refl (rw (← c.self.view_is) at at.ensures.place) c.index_mut.ensures.value c.keep.ensures,
      quiet_kept c.args.peer _ a.quiet_until a.slots.items c.self.inside.slots.items a.count at.result _ _
          c.self.invariant.4 refl (rw (← c.self.view_is) at at.ensures.place) c.index_mut.ensures.value c.keep.ensures,
      c.self.invariant.5,
      c.self.invariant.6,
      c.self.invariant.7,
    )

pub returns-clause-retained : goal.returns-clause-retained
returns-clause-retained g c =
    let a = c.self.inside in
    let at = c.index_of_known-at in
    rw (← c.self.view_is) (ap (λ ss. let t : Table = record { sizes = sizes_of a.sizes; moment = a.moment; sessions = ss } in t)
    (changed_in c.args.peer (with_entry (kept c.args.command.now (reply_in c.args.reply))) a.slots.items c.self.inside.slots.items a.count at.result _ _
    c.self.invariant.3 refl (rw (← c.self.view_is) at at.ensures.place) c.index_mut.ensures.value c.keep.ensures))
