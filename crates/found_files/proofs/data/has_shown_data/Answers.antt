use Rattle.found_files.proofs.data.has_shown_data.Goals as goal

pub shows_stream-requires : goal.shows_stream-requires
shows_stream-requires c = (c.args.clusters, c.stands_below.ensures.0 c.if-not-stands_below.false)
