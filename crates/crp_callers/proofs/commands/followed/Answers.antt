use Rattle.std.proofs.Common.{ℕ, List, false, Some, refl, ap}
use Rattle.crp_report.specs.Runs.{SourceSeen, SinkSeen}
use Rattle.crp_commands.specs.Follow.{FollowChosen, FollowSeen, TextsSeen}
use Rattle.crp_callers.proofs.WrittenTexts.{followed_whole, on_ok}
use Rattle.crp_callers.proofs.commands.followed.Goals as goal

-- a list of bytes as a source, which never fails
abbrev listed : List ℕ → SourceSeen
listed bytes = record { given = Some bytes; before = 0; after = 0 }

pub returns : goal.returns
returns c =
    let page : SinkSeen = record {
      held = Some c.args.texts.now.page.bytes.items;
      holds = Some c.follow.new.files.page.bytes.items;
      before = c.args.texts.now.page.failed;
      after = c.follow.new.files.page.failed;
    } in
    let left : SinkSeen = record {
      held = Some c.args.texts.now.list.bytes.items;
      holds = Some c.follow.new.files.list.bytes.items;
      before = c.args.texts.now.list.failed;
      after = c.follow.new.files.list.failed;
    } in
    let table : SinkSeen = record {
      held = Some c.args.table.now.bytes.items;
      holds = Some c.follow.new.out.bytes.items;
      before = c.args.table.now.failed;
      after = c.follow.new.out.failed;
    } in
    let texts : TextsSeen = record { page = Some page; list = Some left; table = table } in
    let seen : FollowSeen = record {
      yard = listed c.args.list.now;
      movins = Some (listed c.args.message.now);
      report = listed c.args.report.now;
      texts = texts;
    } in
    let chosen : FollowChosen = record { input = c.args.asked.0.now; part = c.args.asked.1.now; loaded = c.args.asked.2; partial = false; summary = false; separator = 44 } in
    on_ok c.follow.result _ _ _ c.follow.ensures.ended (λ ended done.
    followed_whole chosen seen refl refl refl c.args.list.now c.args.message.now c.args.report.now c.follow.new.files.page.bytes.items c.follow.new.files.list.bytes.items
    c.follow.new.out.bytes.items (record {
      messages = listed c.args.message.now;
      pages = page;
      lists = left;
      list_given = refl;
      asked = refl;
      message_given = refl;
      report_given = refl;
      page_wanted = refl;
      list_wanted = refl;
      page_got = record { held = ap Some c.requires.no_page; holds = refl };
      list_got = record { held = ap Some c.requires.no_list; holds = refl };
      table_got = record { held = ap Some c.requires.no_table; holds = refl };
    }) done.1)
