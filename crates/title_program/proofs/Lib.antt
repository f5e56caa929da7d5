mod OfficeTold
mod DeskTold
mod Unread
mod Printed
mod KeptTold
mod Told
