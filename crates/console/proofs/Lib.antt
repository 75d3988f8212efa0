mod Pages
mod Rooms
