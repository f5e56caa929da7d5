-- What a note says.
use Rattle.title_file.specs.{Calls.{Call, asked, opened, written, cut, synced, kept, unread}, declared.record.Note.{Note}}
use Rattle.title_file.specs.declared.record.Note.TheVariants as note

abbrev pub call_of : Note → Call
call_of (note.Asked path) = asked path.now
call_of (note.Opened path bytes) = opened path.now bytes.now
call_of (note.Written at bytes done) = written at bytes.now done
call_of (note.Cut len done) = cut len done
call_of (note.Synced done) = synced done
call_of (note.Kept bytes done) = kept bytes.now done
call_of note.Unread = unread
