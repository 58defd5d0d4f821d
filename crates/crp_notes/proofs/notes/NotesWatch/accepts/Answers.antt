use Rattle.crp_report.proofs.Shown.{shows_then}
use Rattle.crp_notes.proofs.notes.NotesWatch.accepts.Goals as goal

pub returns : goal.returns
returns g c =
    shows_then _ _ _ c.messages_named.ensures
    (shows_then _ _ _ c.bays_named.ensures
    (shows_then _ _ _ c.functions.ensures
    (shows_then _ _ _ c.codes.ensures
    (shows_then _ _ _ c.unread.ensures (shows_then _ _ _ c.mixed.ensures (shows_then _ _ _ c.slots.ensures (shows_then _ _ _ c.absent.ensures c.unlisted.ensures)))))))
